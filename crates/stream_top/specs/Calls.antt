-- A source and an array that were lent to a call, as they were before and as they are now.
use Rattle.std.specs.Prelude.{ℕ, List, Option}
use Rattle.cell_rows.specs.Device.{ArrayState}
use Rattle.program_calls.specs.Calls.{Lent}

-- what is left, where that is told, how much was taken, and how often a call failed
pub record LentSource (S : Type 0) : Type 0 where
  pub left : S → Option (List ℕ)
  pub taken : S → ℕ
  pub faults : S → ℕ
  pub before : S
  pub now : S

abbrev pub source_between : {S : Type 0} → (S → Option (List ℕ)) → (S → ℕ) → (S → ℕ) → S → S → LentSource S
source_between left taken faults old new = record { left = left; taken = taken; faults = faults; before = old; now = new }

-- what is seen of an array of lines of n bytes with m check bytes: its state, and the changes that each cell of a line has spent, where it
-- counts them
abbrev pub TellingArray : ℕ → ℕ → Type 0
TellingArray n m = ArrayState n m × (ℕ → Option (ℕ → ℕ))

abbrev pub lent_telling : {A : Type 0} {n m : ℕ} → (A → ArrayState n m) → (A → ℕ → Option (ℕ → ℕ)) → A → A → Lent A (TellingArray n m)
lent_telling state changes before now = record { before = before; now = now; seen = (state now, changes now) }
