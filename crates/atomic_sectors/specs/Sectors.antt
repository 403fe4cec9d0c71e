-- Sectors over lines: one block more than there are sectors, and a map, which says in which block each sector stands.
use Rattle.std.specs.Prelude.{◌≡◌, ◌≢◌, ◌⊎◌, ℕ, zero, suc, ◌+◌, ◌-◌, ◌*◌, ◌/◌, ◌%◌, ◌^◌, ◌<◌, ◌≤◌, ◌==◌, if◌then◌else◌, List, [], length, slice_index_or}
use Rattle.atomic_sectors.specs.{Lines.{Write, stand}, Numbers.{number_at, number_bytes, number_given}, declared.layout.Layout.Layout}

-- f 0 + f 1 + .., so many of them
abbrev pub total : ℕ → (ℕ → ℕ) → ℕ
total zero f = 0
total (suc k) f = total k f + f k

module _ (n : ℕ) (layout : Layout) where
  -- the line of the map that has the word of a sector, behind all blocks, and where the word's four bytes begin there
  abbrev pub word_line : ℕ → ℕ
  word_line sector = (layout.sectors + 1) * layout.block + sector / (n / 4)

  abbrev pub word_at : ℕ → ℕ
  word_at sector = 4 * (sector % (n / 4))

  -- the write that makes this the word of a sector: of its four bytes alone
  abbrev pub word_write : ℕ → ℕ → Write
  word_write sector word = record {
    line = word_line sector;
    bytes = number_bytes n (word_at sector) word;
    given = number_given n (word_at sector);
  }

  -- the lines are of whole words, and there are enough of them
  pub record Fits (count : ℕ) : Type 0 where
    pub words : 4 ≤ n
    pub short : n ≤ 128
    pub some : 0 < layout.block
    pub room : (layout.sectors + 1) * layout.block + layout.sectors / (n / 4) < count
    pub few : count ≤ 2 ^ 26

  -- by what stands in each line
  module _ (lines : ℕ → List ℕ) where
    abbrev pub word : ℕ → ℕ
    word sector = number_at (lines (word_line sector)) (word_at sector)

    -- the block in which a sector stands: its own, as long as its word is 0, or else the one before the word
    abbrev pub block_of : ℕ → ℕ
    block_of sector = if word sector == 0 then sector else word sector - 1

    -- a line of a sector
    abbrev pub sector_line : ℕ → ℕ → List ℕ
    sector_line sector i = lines (block_of sector * layout.block + i)

    -- each sector has a block, no two the same, and this block is free: so all blocks' numbers together are those of the sectors' blocks and its own
    pub record IsMapped (free : ℕ) : Type 0 where
      pub exists : (s : ℕ) → s < layout.sectors → block_of s ≤ layout.sectors
      pub apart : (s t : ℕ) → s < layout.sectors → t < layout.sectors → block_of s ≡ block_of t → s ≡ t
      pub free_exists : free ≤ layout.sectors
      pub free_apart : (s : ℕ) → s < layout.sectors → block_of s ≢ free
      pub all : total layout.sectors block_of + free ≡ total (suc layout.sectors) (λ block. block)

    -- so it is, whichever block is free
    abbrev pub IsWhole : Type 0
    IsWhole = (free : ℕ) × IsMapped free

    -- the sectors have this content: line i of sector s
    abbrev pub Have : (ℕ → ℕ → List ℕ) → Type 0
    Have content = (s i : ℕ) → s < layout.sectors → i < layout.block → sector_line s i ≡ content s i

-- all lines but so many from the first on stand as before
abbrev pub KeepsOthers : ℕ → ℕ → ℕ → List Write → List Write → Type 0
KeepsOthers n first count old writes = (line : ℕ) → (line < first) ⊎ (first + count ≤ line) → stand n writes line ≡ stand n old line

-- these lines stand from the first on
abbrev pub StandFrom : ℕ → ℕ → List (List ℕ) → List Write → Type 0
StandFrom n first lines writes = (i : ℕ) → i < length lines → stand n writes (first + i) ≡ slice_index_or lines i []

-- a content with these lines in the place of a sector's
abbrev pub with_sector : ℕ → List (List ℕ) → (ℕ → ℕ → List ℕ) → ℕ → ℕ → List ℕ
with_sector sector lines others s i = if s == sector then slice_index_or lines i [] else others s i

-- the sectors are whole, and they are as before or as behind a write of this one, which is never seen in part
pub record IsBeforeOrAfter (n : ℕ) (layout : Layout) (sector : ℕ) (lines : List (List ℕ)) (old writes : List Write) : Type 0 where
  pub whole : IsWhole n layout (stand n writes)
  pub either : Have n layout (stand n writes) (sector_line n layout (stand n old))
      ⊎ Have n layout (stand n writes) (with_sector sector lines (sector_line n layout (stand n old)))
