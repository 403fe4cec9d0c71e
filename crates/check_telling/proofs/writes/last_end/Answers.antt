use Rattle.std.proofs.Common.{refl, arith}
use Rattle.check_judging.specs.Distances.{last_end, end_to}
use Rattle.check_telling.proofs.Folds.{fold_all}
use Rattle.check_telling.proofs.writes.last_end.Goals as goal

pub returns : goal.returns
returns g c =
    fold_all {n = g.row.B} (last_end c.args.to) (λ q found. end_to c.args.to q.outcome found) (λ q rows. refl) c.loop-one.one-index c.loop-one.found c.args.past.now (omega arith) c.loop-one.invariant
