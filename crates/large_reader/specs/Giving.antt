-- Words of the reader's contracts: where the bytes end, which numbers may stand where that of an array line does, and a row that stands
-- where none is.
use Rattle.std.specs.Prelude.{ℕ, ◌+◌, ◌==◌, ◌&&◌, ◌||◌, nat_le, nat_lt, Bool, length}
use Rattle.cell_rows.specs.Rows.{zero_row}
use Rattle.pcm_image.specs.Reading.{Cursor}
use Rattle.large_image.specs.Spelling.{end_mark}
use Rattle.large_reader.specs.declared.image.LargeRow.{LargeRow}

-- how many bytes there are before the end
abbrev pub end_of : Cursor → ℕ
end_of c = c.at + length c.left

-- the mark, or a line from this one on and below that one
abbrev pub is_next : ℕ → ℕ → ℕ → Bool
is_next least count n = n == end_mark || (nat_le least n && nat_lt n count)

-- stands where no row is
abbrev pub no_row : (B M : ℕ) → LargeRow B M
no_row B M = record { line = 0; cells = zero_row B M }
