use Rattle.std.proofs.Common.{arith}
use Rattle.std.specs.Prelude.{reverse}
use Rattle.check_judging.specs.Distances.{waits_above}
use Rattle.check_telling.{specs.Steps.with_read_at, proofs.Ends.reads_more, proofs.Folds.fold_all}
use Rattle.check_telling.proofs.writes.reads_above.Goals as goal

pub returns : goal.returns
returns g c =
    fold_all {n = g.row.B} (λ rows. reverse (waits_above c.args.tick rows)) (λ q found. with_read_at c.args.tick q.outcome found) (reads_more c.args.tick)
    c.loop-one.one-index c.loop-one.found.items c.args.past.now (omega arith) c.loop-one.invariant
