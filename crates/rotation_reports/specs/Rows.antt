-- Numbered rows of a text, one behind the other.
use Rattle.std.specs.{List.join_with_byte, Prelude.{ℕ, zero, suc, ◌+◌, List, [], ◌++◌, codes}}

-- a row: its fields with commas between, and LF at the end
abbrev pub row_of : List (List ℕ) → List ℕ
row_of fields = join_with_byte 44 fields ++ codes "\n"

-- the rows of so many numbers from `first` on
abbrev pub rows_from : (ℕ → List ℕ) → ℕ → ℕ → List ℕ
rows_from row first zero = []
rows_from row first (suc count) = rows_from row first count ++ row (first + count)
