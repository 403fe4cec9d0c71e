use Rattle.std.proofs.Common.{◌≡◌, ℕ, Option}
use Rattle.std.specs.Prelude.{drop}
use Rattle.row_rules.specs.Queueing.{next_store, store_of}
use Rattle.check_telling.{specs.Standing.rows_of, specs.declared.mates.Numbered.Numbered, proofs.Folds.fold_on}
use Rattle.check_telling.proofs.reads.next_store.Given as goal

abbrev pub invariant-loop-one : goal.invariant-loop-one
invariant-loop-one g l =
    fold_on (λ (one : Numbered g.row.B) (found : Option ℕ). store_of l.above l.line one.row one.row.outcome found) l.found (drop l.one-index l.past)
    ≡ fold_on (λ (one : Numbered g.row.B) (found : Option ℕ). store_of l.above l.line one.row one.row.outcome found) (next_store l.above l.line (rows_of l.later)) l.past
