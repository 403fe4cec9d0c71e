-- Kept pages in chunks.
use Rattle.std.specs.{Prelude.{ℕ, ◌≡◌, ◌+◌, ◌-◌, ◌≤◌, min, Bool, List, [], ◌∷◌, ◌++◌, length, slice_index_or, slice_set, Vec, vec_capacity}, declared.alloc.Global.Global}
use Rattle.cell_rows.specs.{Device.counted, Rows.cell, declared.row.Cells.Cells}
use Rattle.seeded_lines.specs.{Follows.Follows, Seeded.{LifeLine, seeded, seeded_cell}, Young.{aging, young_cell}, declared.young.Young.Young}

-- how many pages a chunk has room for
abbrev pub chunk_room : ℕ
chunk_room = 65536

-- the pages of all chunks, one chunk behind the other
unfoldable pub pages_in : {X : Type 0} → List (Vec X Global) → List X
pages_in [] = []
pages_in (chunk ∷ rest) = chunk.items ++ pages_in rest

-- chunks hold so many pages and have room for so many: of each chunk as many as it has room for stand in it before one stands in the next
unfoldable pub Hold : {X : Type 0} → ℕ → ℕ → List (Vec X Global) → Type 0
Hold count room [] = (count ≡ 0) × (room ≡ 0)
Hold count room (chunk ∷ rest) =
    (length chunk.items ≡ min count chunk_room) × (min room chunk_room ≤ vec_capacity chunk) × Hold (count - chunk_room) (room - chunk_room) rest

-- what contracts see: the pages, and for how many there is room
pub record Kept (X : Type 0) : Type 0 where
  pub pages : List X
  pub room : ℕ

-- a pulse or a tear of the line on the page of a number, and no other page changes
pub record WearsAt {B M : ℕ} (index : ℕ) (tearing : Bool) (mask want : Cells B M) (old new : List (LifeLine B M)) : Type 0 where
  pub before : LifeLine B M
  pub after : LifeLine B M
  pub was : before ≡ slice_index_or old index before
  pub is : new ≡ slice_set old index after
  pub cells : Follows (cell mask) (seeded tearing (cell want)) (seeded_cell before) (seeded_cell after)
  pub pulses : after.line.pulses ≡ counted before.line.pulses

-- the same of a young line, of which its page says so much
pub record AgesAt {X : Type 0} {B M : ℕ} (young : X → Young B M) (index : ℕ) (tearing : Bool) (mask want : Cells B M) (old new : List X) : Type 0 where
  pub before : X
  pub after : X
  pub was : before ≡ slice_index_or old index before
  pub is : new ≡ slice_set old index after
  pub cells : Follows (cell mask) (aging tearing (cell want)) (young_cell (young before)) (young_cell (young after))
  pub pulses : (young after).pulses ≡ (young before).pulses + 1
