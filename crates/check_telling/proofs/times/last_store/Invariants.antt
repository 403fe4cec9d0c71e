use Rattle.std.proofs.Common.{◌≡◌, ℕ, cond}
use Rattle.std.specs.Prelude.{drop}
use Rattle.row_rules.specs.{Rows.asks_write, Ticking.{last_store, store_up_to}}
use Rattle.check_telling.{specs.Standing.rows_of, specs.declared.mates.Numbered.Numbered, proofs.Folds.fold_on}
use Rattle.check_telling.proofs.times.last_store.Given as goal

abbrev pub invariant-loop-one : goal.invariant-loop-one
invariant-loop-one g l =
    fold_on (λ (one : Numbered g.row.B) (found : ℕ). cond (asks_write one.row.asks) (store_up_to l.to one.row.outcome found) found) l.found (drop l.one-index l.past)
    ≡ fold_on (λ (one : Numbered g.row.B) (found : ℕ). cond (asks_write one.row.asks) (store_up_to l.to one.row.outcome found) found) (last_store l.to (rows_of l.later)) l.past
