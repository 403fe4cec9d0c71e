-- A write of bytes is made piece by piece, a sector at a time.
use Rattle.std.specs.Prelude.{◌≡◌, ℕ, ◌+◌, ◌-◌, ◌*◌, ◌/◌, ◌%◌, ◌<◌, ◌≤◌, ◌&&◌, nat_le, nat_lt, if◌then◌else◌, List, [], ◌∷◌, slice_index, slice_index_or}
use Rattle.atomic_sectors.specs.{Sectors.{sector_line, with_sector, Have, IsWhole}, declared.layout.Layout.Layout}
use Rattle.disk_rules.specs.{Disk.Written, Standing.{byte_of, sector_size, HoldsDisk}}

-- the byte at a place of lines of n bytes
abbrev pub byte_in : ℕ → List (List ℕ) → ℕ → ℕ
byte_in n lines y = slice_index (slice_index_or lines (y / n) []) (y % n)

module _ (n : ℕ) (layout : Layout) where
  -- a sector's lines as they were, but with those bytes of a write that lie from one offset up to another
  abbrev pub IsPatched : (ℕ → List ℕ) → ℕ → ℕ → List ℕ → ℕ → ℕ → List (List ℕ) → Type 0
  IsPatched old sector at bytes from to lines =
      (y : ℕ) → y < sector_size n layout
      → byte_in n lines y ≡ (if nat_le from (sector * sector_size n layout + y) && nat_lt (sector * sector_size n layout + y) to
      then slice_index bytes (sector * sector_size n layout + y - at) else byte_of n layout old (sector * sector_size n layout + y))

-- where the next piece of a write, all in one sector, is made, the lines hold the disk with so many more bytes of the write
abbrev pub PieceLaw : Type 0
PieceLaw =
    (n : ℕ) (layout : Layout) (old new : ℕ → List ℕ) (sector at : ℕ) (bytes : List ℕ) (done more : ℕ) (lines : List (List ℕ)) (before : List Written)
    → 0 < n → 0 < layout.block
    → sector * sector_size n layout ≤ at + done → at + done + more ≤ sector * sector_size n layout + sector_size n layout
    → HoldsDisk n layout old (record { at = at; bytes = bytes; done = done } ∷ before)
    → IsPatched n layout old sector at bytes (at + done) (at + done + more) lines
    → IsWhole n layout new → Have n layout new (with_sector sector lines (sector_line n layout old))
    → HoldsDisk n layout new (record { at = at; bytes = bytes; done = done + more } ∷ before)
