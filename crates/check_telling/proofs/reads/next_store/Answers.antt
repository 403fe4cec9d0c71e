use Rattle.std.proofs.Common.{refl, arith}
use Rattle.row_rules.specs.Queueing.{next_store, store_of}
use Rattle.check_telling.{specs.Standing.rows_of, proofs.Folds.fold_done}
use Rattle.check_telling.proofs.reads.next_store.Goals as goal

pub returns : goal.returns
returns g c =
    fold_done {n = g.row.B} (next_store c.args.above c.args.line) (λ q found. store_of c.args.above c.args.line q q.outcome found) (λ q rows. refl)
    c.loop-one.one-index c.loop-one.found c.args.past.now (rows_of c.args.later.now) (omega arith) c.loop-one.invariant
