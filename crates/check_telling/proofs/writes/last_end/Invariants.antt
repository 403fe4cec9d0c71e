use Rattle.std.proofs.Common.{◌≡◌, ℕ, Option, None}
use Rattle.std.specs.Prelude.{drop}
use Rattle.check_judging.specs.Distances.{end_to}
use Rattle.check_telling.{specs.declared.mates.Numbered.Numbered, proofs.Folds.fold_on}
use Rattle.check_telling.proofs.writes.last_end.Given as goal

abbrev pub invariant-loop-one : goal.invariant-loop-one
invariant-loop-one g l =
    fold_on (λ (one : Numbered g.row.B) (found : Option ℕ). end_to l.to one.row.outcome found) l.found (drop l.one-index l.past)
    ≡ fold_on (λ (one : Numbered g.row.B) (found : Option ℕ). end_to l.to one.row.outcome found) None l.past
