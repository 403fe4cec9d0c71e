use Rattle.std.proofs.Common.{rules}
use Rattle.std.{specs.Prelude.{nat_le, not}, proofs.lemmas.Fn.filter_same}
use Rattle.check_verdict.specs.declared.members.Member.{Member}
use Rattle.check_verdict.proofs.settling.let_leave.Goals as goal

pub returns : goal.returns
returns c = filter_same _ (λ (m : Member). not (nat_le m.end c.args.tick)) _ (λ m r f k. search rules) _ _ c.retain.ensures.filtered
