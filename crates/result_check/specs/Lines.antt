-- What is kept of a line, behind a write.
use Rattle.std.specs.Prelude.{◌≡◌, ℕ, true, false, Bool, List, [], Some, replicate, slice_get, slice_set}
use Rattle.masked_bytes.specs.Masked.{joined, laid, none_given}
use Rattle.result_rows.specs.declared.Outcome.{Outcome}
use Rattle.row_rules.specs.Answers.{accepts}
use Rattle.check_verdict.specs.{Covering.{unclosed_behind, runs_behind}, declared.lines.CheckedLine.CheckedLine}
use Rattle.result_check.specs.Outcomes.{stored_at}

-- an accepted write changes it so, and another not at all
pub record IsLineBehind (n tick : ℕ) (bytes : List ℕ) (given : List Bool) (outcome : Outcome n) (old new : CheckedLine n) : Type 0 where
  pub newest : accepts outcome ≡ true → new.newest ≡ laid bytes given old.newest
  pub unclosed : accepts outcome ≡ true → new.unclosed ≡ unclosed_behind n (stored_at outcome) given old.unclosed
  pub runs : accepts outcome ≡ true → new.runs.items ≡ runs_behind tick (stored_at outcome) (joined given old.unclosed) old.runs.items
  pub refused : accepts outcome ≡ false → new ≡ old

-- the lines behind a write of this one
pub record LinePasses (n tick : ℕ) (bytes : List ℕ) (given : List Bool) (outcome : Outcome n)
    (line : ℕ) (lines : List (CheckedLine n)) (old : CheckedLine n) (after : List (CheckedLine n)) : Type 0 where
  pub new : CheckedLine n
  pub own : IsLineBehind n tick bytes given outcome old new
  pub all : after ≡ slice_set lines line new

-- no write has passed of a line
pub record IsFresh (n : ℕ) (line : CheckedLine n) : Type 0 where
  pub newest : line.newest ≡ replicate n 0
  pub unclosed : line.unclosed ≡ none_given n
  pub runs : line.runs.items ≡ []

abbrev pub AreFresh : (n : ℕ) → List (CheckedLine n) → Type 0
AreFresh n lines = (l : ℕ) (line : CheckedLine n) → slice_get lines l ≡ Some line → IsFresh n line
