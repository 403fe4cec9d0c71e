-- Small numbers of cells, kept as rows of their binary digits.
use Rattle.std.specs.Prelude.{ℕ, ◌+◌, Bool, cond}
use Rattle.cell_rows.specs.{Rows.{cell, zero_row}, declared.row.Cells.Cells}
pub use Rattle.cell_rows.specs.Rows.{bit_in}
use Rattle.seeded_lines.specs.{declared.cell.CellState.CellState, declared.digits.Digits.Digits}

-- the number with these binary digits
abbrev pub number_of : Bool → Bool → Bool → ℕ
number_of low middle high = cond low 1 0 + cond middle 2 0 + cond high 4 0

-- the number of cell n; past the end it is 0
unfoldable pub digit : {B M : ℕ} → Digits B M → ℕ → ℕ
digit digits n = number_of (cell digits.low n) (cell digits.middle n) (cell digits.high n)

-- every number 0
abbrev pub zero_digits : (B M : ℕ) → Digits B M
zero_digits B M = record { low = zero_row B M; middle = zero_row B M; high = zero_row B M }

-- a line as planes of cells: what they hold, a mask of those that are stuck, the misses of each, and the pulses
pub record PlaneLine (B M : ℕ) : Type 0 where
  pub held : Cells B M
  pub stuck : Cells B M
  pub misses : Digits B M
  pub pulses : ℕ

-- what its cell with this number holds, whether it is stuck, and its misses since its last change
abbrev pub plane_cell : {B M : ℕ} → PlaneLine B M → ℕ → CellState
plane_cell line n = record { value = cell line.held n; stuck = cell line.stuck n; misses = digit line.misses n }

-- a line of zeros, none stuck, that was never pulsed
abbrev pub blank_planes : (B M : ℕ) → PlaneLine B M
blank_planes B M = record { held = zero_row B M; stuck = zero_row B M; misses = zero_digits B M; pulses = 0 }
