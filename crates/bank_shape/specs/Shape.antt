-- The sizes of a bank: its slots, its array lines, and the slot where a line stands.
use Rattle.std.specs.Prelude.{ℕ, Bool, true, false, ◌+◌, ◌*◌, ◌/◌, ◌%◌, ◌^◌, ◌<◌, ◌≤◌}
use Rattle.start_gap.specs.Rotation.{most_lines, place_after}
use Rattle.bank_shape.specs.{declared.BankShape.BankShape, declared.Home.Home}
use Rattle.bank_shape.specs.declared.Home.TheVariants as home

-- how many slots a bank has: each region has one place more than lines
abbrev pub slots_of : BankShape → ℕ
slots_of shape = shape.regions * (shape.lines + 1)

-- whether registers are kept in control lines of the array
abbrev pub is_array : Home → Bool
is_array home.Guarded = false
is_array home.Array = true

-- so many, where registers are kept in the array, and else none
abbrev pub if_array : Home → ℕ → ℕ
if_array home.Guarded count = 0
if_array home.Array count = count

-- how many control lines a bank has behind its spares: where registers are kept there, one for each region and each spare, and one
-- for the mark of a bank that found no spare
abbrev pub controls_of : BankShape → ℕ
controls_of shape = if_array shape.home (shape.regions + shape.spares + 1)

-- how many array lines a bank has: its slots, its spares, and its control lines
abbrev pub lines_in : BankShape → ℕ
lines_in shape = slots_of shape + shape.spares + controls_of shape

-- an array line is one of a bank's
abbrev pub IsIn : BankShape → ℕ → Type 0
IsIn shape line = (shape.base ≤ line) × (line < shape.base + lines_in shape)

-- the first of its control lines, and the one of an item
abbrev pub controls_from : BankShape → ℕ
controls_from shape = shape.base + slots_of shape + shape.spares

abbrev pub control_line : BankShape → ℕ → ℕ
control_line shape item = controls_from shape + item

-- the slot of a place of a region
abbrev pub slot_at : BankShape → ℕ → ℕ → ℕ
slot_at shape region place = region * (shape.lines + 1) + place

-- the slot of a bank line after so many gap moves of its region
abbrev pub slot_moved : BankShape → ℕ → ℕ → ℕ
slot_moved shape line moves = slot_at shape (line / shape.lines) (place_after shape.lines (line % shape.lines) moves)

-- sizes that a bank may have; the number of each of its array lines is a u32
pub record IsBankShape (shape : BankShape) : Type 0 where
  pub some_regions : 1 ≤ shape.regions
  pub few_regions : shape.regions ≤ 64
  pub some_lines : 1 ≤ shape.lines
  pub few_lines : shape.lines ≤ most_lines
  pub few_spares : shape.spares ≤ 1024
  pub some_writes : 1 ≤ shape.writes
  pub few_writes : shape.writes ≤ 256
  pub some_reads : 1 ≤ shape.reads
  pub few_reads : shape.reads ≤ 256
  pub some_psi : 1 ≤ shape.psi
  pub few_psi : shape.psi ≤ 65535
  pub fits : shape.base + lines_in shape < 2 ^ 32
