-- What a line is read as, as bytes, and when it is sound or worn.
use Rattle.std.specs.Prelude.{ℕ, zero, suc, ◌+◌, ◌*◌, ◌-◌, nat_lt, Bool, not, ◌&&◌, ◌||◌, IsTrue, List, [], ◌∷◌}
use Rattle.cell_rows.specs.{Device.LineState, Rows.{cell, members}, declared.row.Cells.Cells}
use Rattle.ecp_line.specs.Layout.{number, decoded, full_cell, activity_cell, some_below, Sound}

-- n bytes from byte k on, of these bits
abbrev pub bytes_from : (ℕ → Bool) → ℕ → ℕ → List ℕ
bytes_from bit k zero = []
bytes_from bit k (suc n) = number bit (8 * k) 8 ∷ bytes_from bit (k + 1) n

-- the bytes that a row of cells is read as
unfoldable pub decode : {B M : ℕ} → ℕ → Cells B M → List ℕ
decode {B} E row = bytes_from (decoded B E (cell row)) 0 B

-- too many cells are stuck, or one that says which entries are active
abbrev pub is_worn_line : {B M : ℕ} → ℕ → Cells B M → (ℕ → Bool) → Bool
is_worn_line {B} {M} E row stuck =
    nat_lt E (members stuck (8 * (B + M))) || (stuck (full_cell B E)
    || (not (cell row (full_cell B E)) && some_below (λ i. stuck (activity_cell B E + i)) (E - 1)))

-- the cells that a line holds are sound
abbrev pub IsSoundLine : {n m : ℕ} → ℕ → LineState n m → Type 0
IsSoundLine {n} {m} e line = Sound n m e (cell line.held) line.stuck

-- a line is worn
abbrev pub IsWornLine : {n m : ℕ} → ℕ → LineState n m → Type 0
IsWornLine e line = IsTrue (is_worn_line e line.held line.stuck)
