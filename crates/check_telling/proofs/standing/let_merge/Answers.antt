use Rattle.std.proofs.Common.{rules}
use Rattle.std.proofs.lemmas.Fn.{filter_same}
use Rattle.check_judging.specs.Steps.{stays_behind}
use Rattle.check_telling.specs.declared.mates.Numbered.{Numbered}
use Rattle.check_telling.proofs.standing.let_merge.Goals as goal

pub returns : goal.returns
returns g c = filter_same _ (λ (one : Numbered g.row.B). stays_behind c.args.row.now one.row) _ (λ one r f k. search rules) _ _ c.retain.ensures.filtered
