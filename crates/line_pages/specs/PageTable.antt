-- The pages of lines, of which each has one or none.
use Rattle.std.specs.Prelude.{ℕ, zero, suc, ◌≡◌, ◌+◌, Bool, List, map, Option, None, Some, slice_get, slice_index_or, slice_set}
use Rattle.cell_rows.specs.{Device.counted, Rows.cell, declared.row.Cells.Cells}
use Rattle.seeded_lines.specs.{Follows.Follows, Seeded.{LifeLine, seeded, seeded_cell}, Young.{aging, young_cell}, declared.young.Young.Young}

-- the page that an entry of the table names
unfoldable pub page_of : {X : Type 0} → List X → ℕ → Option X
page_of pages zero = None
page_of pages (suc index) = slice_get pages index

-- the page of each line that has one
unfoldable pub pages_of : {X : Type 0} → List X → List ℕ → List (Option X)
pages_of pages table = map (page_of pages) table

-- the page of one line
abbrev pub page_at : {X : Type 0} → List (Option X) → ℕ → Option X
page_at pages line = slice_index_or pages line None

-- a pulse or a tear of a line with a page, and no other page changes
pub record WearsPage {B M : ℕ} (line : ℕ) (tearing : Bool) (mask want : Cells B M) (old new : List (Option (LifeLine B M))) : Type 0 where
  pub before : LifeLine B M
  pub after : LifeLine B M
  pub was : page_at old line ≡ Some before
  pub is : new ≡ slice_set old line (Some after)
  pub cells : Follows (cell mask) (seeded tearing (cell want)) (seeded_cell before) (seeded_cell after)
  pub pulses : after.line.pulses ≡ counted before.line.pulses

-- the same of a young line, of which its page says so much
pub record AgesPage {X : Type 0} {B M : ℕ} (young : X → Young B M) (line : ℕ) (tearing : Bool) (mask want : Cells B M) (old new : List (Option X)) : Type 0 where
  pub before : X
  pub after : X
  pub was : page_at old line ≡ Some before
  pub is : new ≡ slice_set old line (Some after)
  pub cells : Follows (cell mask) (aging tearing (cell want)) (young_cell (young before)) (young_cell (young after))
  pub pulses : (young after).pulses ≡ (young before).pulses + 1
