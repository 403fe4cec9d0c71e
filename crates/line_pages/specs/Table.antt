-- Numbers of lines that take memory by blocks of lines.
use Rattle.std.specs.{List.{range_with_len, sum_by}, Prelude.{ℕ, zero, suc, ◌≡◌, ◌≢◌, ◌+◌, ◌*◌, ◌/◌, ◌%◌, ◌^◌, ◌<◌, ◌≤◌, List, [], length, map, slice_index, slice_index_or}}

-- 1 for 0, else 0
abbrev pub free : ℕ → ℕ
free zero = 1
free (suc index) = 0

-- each entry is 0 or names a page of its own by one more than its index, so many pages are named by none, and there is room for those that
-- are missing
pub record IsPaging {X : Type 0} (table : List ℕ) (pages : List X) (idle capacity : ℕ) : Type 0 where
  pub few : length table < 2 ^ 32
  pub made : (line : ℕ) → slice_index table line ≤ length pages
  pub apart : (k l : ℕ) → slice_index table k ≡ slice_index table l → slice_index table k ≢ 0 → k ≡ l
  pub all : sum_by free table + length pages ≡ length table + idle
  pub most : length pages ≤ length table
  pub room : length table ≤ capacity

-- these pages are idle: each is there, stands among them once, and is named by no entry
pub record AreIdle (table idle : List ℕ) (pages : ℕ) : Type 0 where
  pub made : (k : ℕ) → k < length idle → slice_index idle k < pages
  pub apart : (k l : ℕ) → k < length idle → l < length idle → slice_index idle k ≡ slice_index idle l → k ≡ l
  pub unnamed : (line k : ℕ) → k < length idle → slice_index table line ≢ slice_index idle k + 1

-- the pages that lines have and the idle ones, for all of which there is room
pub record IsShelf {X : Type 0} (table idle : List ℕ) (pages : List X) (capacity free_capacity : ℕ) : Type 0 where
  pub paging : IsPaging table pages (length idle) capacity
  pub unused : AreIdle table idle (length pages)
  pub room : length table ≤ free_capacity

-- how many lines share a block
abbrev pub block_lines : ℕ
block_lines = 128

-- a number of a block: 0 where the block's entry is 0, else as its list says
unfoldable pub number_in : List (List ℕ) → ℕ → ℕ → ℕ
number_in numbers zero place = 0
number_in numbers (suc index) place = slice_index (slice_index_or numbers index []) place

-- the number of a line
abbrev pub number_at : List ℕ → List (List ℕ) → ℕ → ℕ
number_at blocks numbers line = number_in numbers (slice_index blocks (line / block_lines)) (line % block_lines)

-- the numbers of so many lines
unfoldable pub numbers_of : List ℕ → List (List ℕ) → ℕ → List ℕ
numbers_of blocks numbers lines = map (number_at blocks numbers) (range_with_len 0 lines)

-- each block has no numbers or a list of its own, and there is room for those that are missing
pub record AreBlocks (blocks : List ℕ) (numbers : List (List ℕ)) (capacity : ℕ) : Type 0 where
  pub paging : IsPaging blocks numbers 0 capacity
  pub whole : (index : ℕ) → index < length numbers → length (slice_index_or numbers index []) ≡ block_lines

-- blocks for so many lines
pub record IsTable (blocks : List ℕ) (numbers : List (List ℕ)) (lines capacity : ℕ) : Type 0 where
  pub each : AreBlocks blocks numbers capacity
  pub covered : lines ≤ block_lines * length blocks
  pub few : lines < 2 ^ 32
