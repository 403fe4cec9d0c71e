-- The bytes of the image of a large module: the only ones that it has. Of the array lines it has only those of which a cell is 1.
use Rattle.std.specs.{List.{flat_map, list_all}, Prelude.{ℕ, ◌+◌, ◌==◌, Bool, if◌then◌else◌, List, [], ◌∷◌, ◌++◌}}
use Rattle.cell_rows.specs.declared.row.Cells.{Cells}
use Rattle.pcm_image.specs.{Formats.magic_of, Saved.{Saved, SavedBank, Head}, Spelling.{u32, head_bytes_in, region_bytes_in, bank_bytes_in, cells_bytes}}
use Rattle.pcm_image.specs.{declared.RegionImage.RegionImage, declared.Format.TheVariants.Large}

abbrev pub magic : List ℕ
magic = magic_of Large

-- the numbers of a module: 26 bytes
abbrev pub head_bytes : ℕ → Head → List ℕ
head_bytes B h = head_bytes_in Large B h

-- the registers of a region: 10 bytes
abbrev pub region_bytes : RegionImage → List ℕ
region_bytes r = region_bytes_in Large r

abbrev pub bank_bytes : {B : ℕ} → SavedBank B → List ℕ
bank_bytes b = bank_bytes_in Large b

-- whether no byte is other than 0
abbrev pub are_zero : List ℕ → Bool
are_zero bytes = list_all (λ byte. byte == 0) bytes

-- an array line's number and its cells, where one of them is 1
abbrev pub row_bytes : {B M : ℕ} → ℕ → Cells B M → List ℕ
row_bytes line row = if are_zero (cells_bytes row) then [] else u32 line ++ cells_bytes row

-- the array lines from this one on, in order
abbrev pub rows_bytes : {B M : ℕ} → ℕ → List (Cells B M) → List ℕ
rows_bytes line [] = []
rows_bytes line (row ∷ rows) = row_bytes line row ++ rows_bytes (line + 1) rows

-- it stands where the number of a further array line would
abbrev pub end_mark : ℕ
end_mark = 4294967295

-- all but the end mark
unfoldable pub large_front : {B M : ℕ} → Saved B M → List ℕ
large_front {B} s = head_bytes B s.head ++ (flat_map bank_bytes s.parts ++ rows_bytes 0 s.cells)

unfoldable pub large_bytes : {B M : ℕ} → Saved B M → List ℕ
large_bytes s = large_front s ++ u32 end_mark
