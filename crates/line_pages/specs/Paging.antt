-- The lines of an array, whether or not they have a page.
use Rattle.std.specs.{List.range_with_len, Prelude.{ℕ, ◌≡◌, ◌≢◌, Bool, List, [], length, map, Option, None, Some}}
use Rattle.cell_rows.specs.{Device.counted, Rows.cell, declared.array.Wear.Wear, declared.row.Cells.Cells}
use Rattle.seeded_lines.specs.{Follows.Follows, Seeded.{LifeLine, seeded, seeded_cell}}
use Rattle.line_pages.specs.{PageTable.page_at, Paged.line_seen, Youths.young_at, declared.pages.Pages.Pages}

-- the line with this number
abbrev pub seen : {B M : ℕ} → Pages B M → ℕ → LifeLine B M
seen p line = line_seen p.wear line (young_at p.young line) (page_at p.grown line)

-- the lines, each as it is seen
unfoldable pub lines_seen : {B M : ℕ} → Pages B M → List (LifeLine B M)
lines_seen p = map (seen p) (range_with_len 0 (length p.grown))

-- a pulse or a tear of a line: each masked cell wears as its life says, the pulse is counted, and all else stays
pub record WearsLine {B M : ℕ} (line : ℕ) (tearing : Bool) (mask want : Cells B M) (old new : Pages B M) : Type 0 where
  pub cells : Follows (cell mask) (seeded tearing (cell want)) (seeded_cell (seen old line)) (seeded_cell (seen new line))
  pub pulses : (seen new line).line.pulses ≡ counted (seen old line).line.pulses
  pub others : (n : ℕ) → n ≢ line → seen new n ≡ seen old n
  pub lines : length new.grown ≡ length old.grown
  pub wear : new.wear ≡ old.wear

-- the wear that the lines of an array were powered up with
abbrev pub seeded_wear : {B M : ℕ} → Option (Pages B M) → Option Wear
seeded_wear None = None
seeded_wear (Some p) = Some p.wear

-- the lines of an array, of which there are none before it is powered up
abbrev pub seeded_lines : {B M : ℕ} → Option (Pages B M) → List (LifeLine B M)
seeded_lines None = []
seeded_lines (Some p) = lines_seen p
