-- A write of bytes that is made sector by sector, and what a disk keeps meanwhile.
use Rattle.std.specs.Prelude.{◌≡◌, ℕ, ◌+◌, ◌-◌, ◌*◌, ◌%◌, ◌<◌, ◌&&◌, nat_le, nat_lt, if◌then◌else◌, min, List, ◌∷◌, length, slice_index}
use Rattle.atomic_sectors.specs.{Lines.{Write, stand}, Serving.IsKnown, declared.layout.Layout.Layout}
use Rattle.disk_rules.specs.{Disk.{Written, IsPart}, Pieces.byte_in, Standing.{HoldsDisk, byte_of, sector_size}}
use Rattle.disk_bytes.specs.{declared.disk.Disk.Disk, declared.pieces.Piece.Piece}

-- a write of bytes at an offset of which so many are written
abbrev pub part : ℕ → List ℕ → ℕ → Written
part at bytes done = record { at = at; bytes = bytes; done = done }

-- how many are, when the next sector is
abbrev pub next_part : ℕ → ℕ → ℕ → ℕ → ℕ
next_part sector at all done = done + min (sector - (at + done) % sector) (all - done)

module _ (n : ℕ) where
  -- a disk has room for a sector, and knows which block is free, or that this is to be found
  pub record IsReady (writes : List Write) (disk : Disk n) : Type 0 where
    pub room : length disk.room.items ≡ disk.layout.block
    pub known : IsKnown n disk.layout writes disk.known

  module _ (layout : Layout) where
    -- a part of a write was made, and the lines hold the disk with it
    abbrev pub HasPart : ℕ → List ℕ → List Written → List Write → Type 0
    HasPart at bytes before writes =
        (done : ℕ) × IsPart (sector_size n layout) (part at bytes done) × HoldsDisk n layout (stand n writes) (part at bytes done ∷ before)

    -- these lines are those of a piece's sector as they were, but with the piece's bytes, which are so many from one on
    abbrev pub Patches : (ℕ → List ℕ) → Piece → List ℕ → ℕ → List (List ℕ) → Type 0
    Patches old piece bytes from lines =
        (y : ℕ) → y < sector_size n layout
        → byte_in n lines y ≡ (if nat_le piece.begin y && nat_lt y (piece.begin + piece.size)
        then slice_index bytes (from + (y - piece.begin)) else byte_of n layout old (piece.sector * sector_size n layout + y))
