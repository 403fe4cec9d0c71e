-- Numbers of cells, kept in rows of eight.
use Rattle.std.specs.Prelude.{ℕ, ◌/◌, ◌%◌, List, [], ◌++◌, slice_index, slice_index_or}
use Rattle.seeded_lines.specs.declared.counts.Counts.{Counts}

-- number n of rows of eight; past the end it is 0
abbrev pub count_in : List (List ℕ) → ℕ → ℕ
count_in rows n = slice_index (slice_index_or rows (n / 8) []) (n % 8)

-- the number of cell n; past the end it is 0
unfoldable pub count : {B M : ℕ} → Counts B M → ℕ → ℕ
count counts n = count_in (counts.bits ++ counts.meta) n
