use Rattle.std.proofs.Common.{refl, arith, cond}
use Rattle.row_rules.specs.{Rows.asks_write, Ticking.{last_store, store_up_to}}
use Rattle.check_telling.{specs.Standing.rows_of, proofs.Folds.fold_done}
use Rattle.check_telling.proofs.times.last_store.Goals as goal

pub returns : goal.returns
returns g c =
    fold_done {n = g.row.B} (last_store c.args.to) (λ q found. cond (asks_write q.asks) (store_up_to c.args.to q.outcome found) found) (λ q rows. refl)
    c.loop-one.one-index c.loop-one.found c.args.past.now (rows_of c.args.later.now) (omega arith) c.loop-one.invariant
