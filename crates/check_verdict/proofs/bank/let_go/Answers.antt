use Rattle.std.proofs.Common.{ℕ, rules}
use Rattle.std.{specs.Prelude.nat_lt, proofs.lemmas.Fn.filter_same}
use Rattle.check_verdict.proofs.bank.let_go.Goals as goal

pub returns : goal.returns
returns c = filter_same _ (λ (v : ℕ). nat_lt c.args.tick v) _ (λ v r f k. search rules) _ _ c.retain.ensures.filtered
