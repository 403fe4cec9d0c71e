use Rattle.std.proofs.Common.{◌≡◌, List, Bool}
use Rattle.std.specs.Prelude.{drop}
use Rattle.masked_bytes.specs.Masked.{none_given}
use Rattle.check_telling.{specs.Steps.with_given, specs.declared.mates.Numbered.Numbered, proofs.Folds.fold_on}
use Rattle.check_telling.proofs.reads.unstored.Given as goal

abbrev pub invariant-loop-one : goal.invariant-loop-one
invariant-loop-one g l =
    fold_on (λ (one : Numbered g.row.B) (given : List Bool). with_given l.tick l.line one.row given) l.found (drop l.one-index l.past)
    ≡ fold_on (λ (one : Numbered g.row.B) (given : List Bool). with_given l.tick l.line one.row given) (none_given g.row.B) l.past
