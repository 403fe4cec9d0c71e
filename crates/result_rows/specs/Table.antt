-- The outcomes of a run's rows, which are numbered from 1.
use Rattle.std.specs.Prelude.{ℕ, ◌-◌, ◌≤◌, List, length, Option, slice_get, slice_set}

-- the table has this row
pub record HasRow {A : Type 0} (outcomes : List A) (row : ℕ) : Type 0 where
  pub above : 1 ≤ row
  pub within : row ≤ length outcomes

-- the outcome of a row
abbrev pub outcome_at : {A : Type 0} → List A → ℕ → Option A
outcome_at outcomes row = slice_get outcomes (row - 1)

-- the table with another outcome at one row
abbrev pub with_outcome : {A : Type 0} → List A → ℕ → A → List A
with_outcome outcomes row outcome = slice_set outcomes (row - 1) outcome
