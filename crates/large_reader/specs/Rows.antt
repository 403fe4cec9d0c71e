-- The array lines that an image lists, and all that they stand for.
use Rattle.std.specs.{List.range_with_len, Prelude.{ℕ, ◌+◌, ◌<◌, ◌≤◌, ◌==◌, if◌then◌else◌, List, [], ◌∷◌, map, IsFalse}}
use Rattle.cell_rows.specs.{Rows.zero_row, declared.row.Cells.Cells}
use Rattle.pcm_image.specs.Spelling.{cells_bytes}
use Rattle.large_image.specs.Spelling.{are_zero}
use Rattle.large_reader.specs.declared.image.LargeRow.{LargeRow}

-- the cells of an array line: those that are listed, or else all 0
abbrev pub listed : {B M : ℕ} → List (LargeRow B M) → ℕ → Cells B M
listed {B} {M} [] line = zero_row B M
listed (row ∷ rows) line = if row.line == line then row.cells else listed rows line

-- the cells of the first array lines, so many
abbrev pub all_rows : {B M : ℕ} → ℕ → List (LargeRow B M) → List (Cells B M)
all_rows count rows = map (listed rows) (range_with_len 0 count)

-- lines are listed in order, from this one on and below that one, each with a cell that is 1
abbrev pub AreListed : {B M : ℕ} → ℕ → ℕ → List (LargeRow B M) → Type 0
AreListed least count [] = Unit {0}
AreListed least count (row ∷ rows) =
    (least ≤ row.line) × (row.line < count) × IsFalse (are_zero (cells_bytes row.cells)) × AreListed (row.line + 1) count rows
