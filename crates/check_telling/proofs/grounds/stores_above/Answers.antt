use Rattle.std.proofs.Common.{arith}
use Rattle.std.specs.Prelude.{reverse}
use Rattle.check_judging.specs.Distances.{ends_above}
use Rattle.check_telling.{specs.Steps.with_store, proofs.Ends.stores_more, proofs.Folds.fold_all}
use Rattle.check_telling.proofs.grounds.stores_above.Goals as goal

pub returns : goal.returns
returns g c =
    fold_all {n = g.row.B} (λ rows. reverse (ends_above c.args.tick rows)) (λ q found. with_store c.args.tick q.outcome found) (stores_more c.args.tick)
    c.loop-one.one-index c.loop-one.found.items c.args.past.now (omega arith) c.loop-one.invariant
