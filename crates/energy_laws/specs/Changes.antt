-- How many cells of a line change, and how many are driven.
use Rattle.std.specs.Prelude.{ℕ, ◌≡◌, ◌+◌, ◌*◌, ◌≤◌, ◌&&◌, ◌⊎◌, not, false}
use Rattle.cell_rows.specs.{Device.{CellBounds, DeviceStep, LineState, TornStep}, Energy.{reset_cells, set_cells}, Pulse.IsPulse, Rows.{cell, members}, declared.row.Cells.Cells}

-- how many cells are 1 in a row that were 0 in another
abbrev pub gone_up : {B M : ℕ} → Cells B M → Cells B M → ℕ
gone_up {B} {M} old new = members (λ n. cell new n && not (cell old n)) (8 * (B + M))

-- how many are 0 that were 1
abbrev pub gone_down : {B M : ℕ} → Cells B M → Cells B M → ℕ
gone_down {B} {M} old new = members (λ n. cell old n && not (cell new n)) (8 * (B + M))

-- as many cells are set as are set and hold 0, and as many are reset as are reset and hold 1
abbrev pub WrongLaw : Type 0
WrongLaw =
    (B M : ℕ) (mask want held : Cells B M) → IsPulse mask want held
    → (set_cells mask want ≡ members (λ n. cell mask n && cell want n && not (cell held n)) (8 * (B + M)))
    × (reset_cells mask want ≡ members (λ n. cell mask n && not (cell want n) && cell held n) (8 * (B + M)))

-- a pulse or a tear of a line changes at most the cells that it drives
abbrev pub ChangedLaw : Type 0
ChangedLaw =
    (B M : ℕ) (bounds : CellBounds) (mask want : Cells B M) (old new : LineState B M) → IsPulse mask want old.held
    → DeviceStep bounds mask want old new ⊎ TornStep bounds mask old new
    → (gone_up old.held new.held ≤ set_cells mask want) × (gone_down old.held new.held ≤ reset_cells mask want)

-- a pulse changes exactly those where cells never miss and none is stuck behind it
abbrev pub DrivenLaw : Type 0
DrivenLaw =
    (B M : ℕ) (bounds : CellBounds) (mask want : Cells B M) (old new : LineState B M) → IsPulse mask want old.held
    → DeviceStep bounds mask want old new → bounds.misses ≡ 0 → ((n : ℕ) → new.stuck n ≡ false)
    → (gone_up old.held new.held ≡ set_cells mask want) × (gone_down old.held new.held ≡ reset_cells mask want)
