use Rattle.std.proofs.Common.{refl, arith}
use Rattle.check_judging.specs.Distances.{last_read, read_to}
use Rattle.check_telling.proofs.Folds.{fold_all}
use Rattle.check_telling.proofs.reads.last_read.Goals as goal

pub returns : goal.returns
returns g c =
    fold_all {n = g.row.B} last_read (λ q found. read_to q.outcome found) (λ q rows. refl) c.loop-one.one-index c.loop-one.found c.args.past.now (omega arith) c.loop-one.invariant
