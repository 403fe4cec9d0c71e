-- The image of a large module: its array lines, and the whole.
use Rattle.std.specs.{Int.w32, Prelude.{ℕ, zero, suc, ◌+◌, ◌*◌, ◌==◌, not, if◌then◌else◌, List, [], ◌∷◌, length, Result, Ok}}
use Rattle.cell_rows.specs.{Rows.zero_row, declared.row.Cells.Cells}
use Rattle.pcm_image.specs.Reading.{Cursor, Got, fault, ◌>>=◌, field, number_at, any, times, size_behind, head_at, bank_at, row_of}
use Rattle.pcm_image.specs.{Saved.{Saved, array_lines_in}, declared.Format.TheVariants.Large, declared.ImageFault.ImageFault}
use Rattle.pcm_image.specs.declared.ImageKind.TheVariants.{Line, Extra}
use Rattle.large_image.specs.Spelling.{magic, are_zero, end_mark}

-- the cells of an array line, of which one is 1
abbrev pub row_at : (B M : ℕ) → Cursor → Got (Cells B M)
row_at B M c = field (B + M) Line (λ bytes. not (are_zero bytes)) (row_of B M) c

-- the cells of the array lines from this one on, so many: a line whose number comes next has those behind it, and of another all are 0;
-- behind the last one stands the end mark
abbrev pub rows_at : (B M : ℕ) → ℕ → ℕ → Cursor → Got (List (Cells B M))
rows_at B M line zero c = do
  mark ← number_at w32 Line (λ n. n == end_mark) c
  Ok ([], mark.1)
rows_at B M line (suc n) c = do
  number ← number_at w32 Line any c
  if number.0 == line
      then (do
        row ← row_at B M number.1
        rest ← rows_at B M (line + 1) n row.1
        Ok (row.0 ∷ rest.0, rest.1))
      else (do
        rest ← rows_at B M (line + 1) n c
        Ok (zero_row B M ∷ rest.0, rest.1))

-- what the bytes save, all of the bytes
unfoldable pub large_of : (B M : ℕ) → List ℕ → Result (Saved B M) ImageFault
large_of B M bytes = do
  head ← head_at Large B (record { at = 0; left = bytes })
  parts ← times head.0.banks (bank_at Large B head.0) head.1
  cells ← rows_at B M 0 (head.0.banks * array_lines_in head.0) parts.1
  if length cells.1.left == 0 then Ok (record { head = head.0; parts = parts.0; cells = cells.0 }) else fault cells.1 Extra

-- the size of a line, by the first nine bytes
abbrev pub size_of : List ℕ → Result ℕ ImageFault
size_of = size_behind magic
