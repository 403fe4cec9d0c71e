-- What an array line is used for in the end of its bank, and that it is used for one thing.
use Rattle.std.specs.Prelude.{ℕ, zero, suc, ◌+◌, ◌-◌, max, ◌≡◌, ◌≢◌, ◌*◌, ◌<◌, ◌≤◌}
use Rattle.bank_shape.specs.{Shape.{slots_of, slot_at, controls_from}, declared.BankShape.BankShape, declared.Role.Role}
use Rattle.bank_shape.specs.declared.Role.TheVariants.{Line, Gap, Free, Retired, Control}
use Rattle.start_gap.specs.Rotation.{gap_after}
use Rattle.right_runs.specs.Ends.{BankEnd, place_by_table}

-- how many spares are used: all up to the greatest one that one of these slots has
abbrev pub used_among : BankShape → (ℕ → ℕ) → ℕ → ℕ
used_among shape table zero = 0
used_among shape table (suc slots) = max (table slots + 1 - (shape.base + slots_of shape)) (used_among shape table slots)

-- how many of a bank's are
abbrev pub used_spares : BankShape → (ℕ → ℕ) → ℕ
used_spares shape table = used_among shape table (slots_of shape)

-- an array line of the bank holds a line, by the name that it has in the module; or it is a region's gap, a spare that isn't
-- used, one that no slot has any more, or a control line
abbrev pub IsRole : BankShape → (ℕ → ℕ) → BankEnd → ℕ → Role → Type 0
IsRole shape named end at (Line line) =
    (own : ℕ) × (own < shape.regions * shape.lines) × (place_by_table shape end.moves end.table own ≡ at) × (line ≡ named own)
IsRole shape named end at Gap =
    (region : ℕ) × (region < shape.regions) × (end.table (slot_at shape region (gap_after shape.lines (end.moves region))) ≡ at)
IsRole shape named end at Free = (shape.base + slots_of shape + used_spares shape end.table ≤ at) × (at < controls_from shape)
IsRole shape named end at Retired =
    (at < shape.base + slots_of shape + used_spares shape end.table) × ((slot : ℕ) → slot < slots_of shape → end.table slot ≢ at)
IsRole shape named end at Control = controls_from shape ≤ at

-- it has this role, and no other
pub record HasOneRole (shape : BankShape) (named : ℕ → ℕ) (end : BankEnd) (at : ℕ) : Type 0 where
  pub role : Role
  pub is : IsRole shape named end at role
  pub only : (other : Role) → IsRole shape named end at other → other ≡ role
