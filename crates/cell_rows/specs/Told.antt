-- What an array tells of the cells of a line.
use Rattle.std.specs.Prelude.{ℕ, zero, suc, ◌+◌, ◌*◌, max, Option, Some, None}
use Rattle.cell_rows.specs.{Device.LineState, Rows.members, declared.tells.CellWear.CellWear}

-- the greatest of the first n of some numbers; 0 where n is 0
unfoldable pub most : (ℕ → ℕ) → ℕ → ℕ
most number zero = 0
most number (suc n) = max (most number n) (number n)

-- how many cells of the line are stuck, and the most changes that one of them has spent; nothing where the changes aren't counted
abbrev pub wear_told : {B M : ℕ} → LineState B M → Option (ℕ → ℕ) → Option CellWear
wear_told line None = None
wear_told {B} {M} line (Some changes) =
    Some (record { stuck = members line.stuck (8 * (B + M)); changes = most changes (8 * (B + M)) })
