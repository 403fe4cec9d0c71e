use Rattle.std.proofs.Common.{◌≡◌, ℕ, List, []}
use Rattle.std.specs.Prelude.{drop}
use Rattle.check_telling.{specs.Steps.with_read_at, specs.declared.mates.Numbered.Numbered, proofs.Folds.fold_on}
use Rattle.check_telling.proofs.writes.reads_above.Given as goal

abbrev pub invariant-loop-one : goal.invariant-loop-one
invariant-loop-one g l =
    fold_on (λ (one : Numbered g.row.B) (found : List ℕ). with_read_at l.tick one.row.outcome found) l.found.items (drop l.one-index l.past)
    ≡ fold_on (λ (one : Numbered g.row.B) (found : List ℕ). with_read_at l.tick one.row.outcome found) [] l.past
