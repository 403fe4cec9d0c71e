-- The pages of young lines whose cells don't miss.
use Rattle.std.specs.Prelude.{ℕ, ◌≡◌, ◌≢◌, ◌+◌, Bool, Option, None, Some}
use Rattle.cell_rows.specs.{Rows.cell, declared.row.Cells.Cells}
use Rattle.seeded_lines.specs.{Follows.Follows, Planes.zero_digits, Young.{aging, blank_young, young_cell}, declared.young.Young.Young}
use Rattle.line_pages.specs.{declared.first.First.First, declared.later.Later.Later}

-- what the page of a line of few pulses stands for
abbrev pub by_first : {B M : ℕ} → First B M → Young B M
by_first {B} {M} first = record {
  held = first.held;
  misses = zero_digits B M;
  limits = zero_digits B M;
  low = first.changes;
  middle = zero_digits B M;
  high = zero_digits B M;
  pulses = first.pulses;
}

-- what the page of a line of more pulses stands for
abbrev pub by_later : {B M : ℕ} → Later B M → Young B M
by_later {B} {M} later = record {
  held = later.held;
  misses = zero_digits B M;
  limits = zero_digits B M;
  low = later.low;
  middle = later.middle;
  high = later.high;
  pulses = later.pulses;
}

-- a line is as its later page says, and without one as its first
unfoldable pub tier_of : {B M : ℕ} → Option (Later B M) → Option (First B M) → Option (Young B M)
tier_of (Some later) first = Some (by_later later)
tier_of None (Some first) = Some (by_first first)
tier_of None None = None

-- the young page of a line, which is blank before its first pulse
abbrev pub young_or_blank : {B M : ℕ} → Option (Young B M) → Young B M
young_or_blank {B} {M} None = blank_young B M
young_or_blank (Some young) = young

-- the first page of a line, which is blank before its first pulse
abbrev pub first_or_blank : {B M : ℕ} → Option (First B M) → First B M
first_or_blank {B} {M} None = record { held = (blank_young B M).held; changes = (blank_young B M).low; pulses = 0 }
first_or_blank (Some first) = first

-- a pulse or a tear of a line that stays young, and no other line changes
pub record AgesYoung {B M : ℕ} (line : ℕ) (tearing : Bool) (mask want : Cells B M) (old new : ℕ → Option (Young B M)) : Type 0 where
  pub after : Young B M
  pub is : new line ≡ Some after
  pub others : (n : ℕ) → n ≢ line → new n ≡ old n
  pub cells : Follows (cell mask) (aging tearing (cell want)) (young_cell (young_or_blank (old line))) (young_cell after)
  pub pulses : after.pulses ≡ (young_or_blank (old line)).pulses + 1
