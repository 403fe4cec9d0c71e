-- One cell of a line, and a line as it is kept.
use Rattle.std.specs.Prelude.{ℕ, ◌≡◌, ◌≢◌, ◌+◌, ◌*◌, List, replicate, slice_index}
use Rattle.cell_rows.specs.{Device.LineState, Rows.{cell, zero_row}, declared.row.Cells.Cells}
use Rattle.seeded_lines.specs.declared.cell.CellState.{CellState}

-- what the cell with this number holds, whether it is stuck, and its misses since its last change
abbrev pub cell_state : {B M : ℕ} → LineState B M → ℕ → CellState
cell_state line n = record { value = cell line.held n; stuck = line.stuck n; misses = line.misses n }

-- a line as it is kept: what its cells hold, a mask of those that are stuck, the misses of each, and the pulses
pub record CellLine (B M : ℕ) : Type 0 where
  pub held : Cells B M
  pub stuck : Cells B M
  pub misses : List ℕ
  pub pulses : ℕ

-- what it stands for; no count of changes is kept, since its cells may stick at once
abbrev pub line_state : {B M : ℕ} → CellLine B M → LineState B M
line_state line =
    record { held = line.held; stuck = cell line.stuck; misses = slice_index line.misses; spent = λ n. 0; pulses = line.pulses }

-- a line of zeros, none stuck, that was never pulsed
abbrev pub blank_line : (B M : ℕ) → CellLine B M
blank_line B M = record { held = zero_row B M; stuck = zero_row B M; misses = replicate (8 * (B + M)) 0; pulses = 0 }

-- the cell with this number has the new state, and nothing else has changed
pub record SetsCell {B M : ℕ} (number : ℕ) (state : CellState) (old new : LineState B M) : Type 0 where
  pub set : cell_state new number ≡ state
  pub others : (n : ℕ) → n ≢ number → cell_state new n ≡ cell_state old n
  pub pulses : new.pulses ≡ old.pulses
