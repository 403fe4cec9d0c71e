-- Young lines from their first pulse on.
use Rattle.std.specs.Prelude.{ℕ, ◌≡◌, ◌≢◌, ◌+◌, Bool, Option, None, Some}
use Rattle.cell_rows.specs.{Rows.cell, declared.array.Wear.Wear, declared.row.Cells.Cells}
use Rattle.seeded_lines.specs.{Follows.Follows, Young.{IsBegun, aging, young_cell}, declared.young.Young.Young}

-- a line without a page begins
abbrev pub Starts : {B M : ℕ} → Wear → ℕ → Option (Young B M) → Young B M → Type 0
Starts wear line None young = IsBegun wear line young
Starts wear line (Some old) young = young ≡ old

-- how often a line was pulsed that is young or has no page
abbrev pub pulses_before : {B M : ℕ} → Option (Young B M) → ℕ
pulses_before None = 0
pulses_before (Some young) = young.pulses

-- a pulse or a tear of a line that stays young, and no other line changes
pub record AgesLine {B M : ℕ} (wear : Wear) (line : ℕ) (tearing : Bool) (mask want : Cells B M) (old new : ℕ → Option (Young B M)) : Type 0 where
  pub before : Young B M
  pub after : Young B M
  pub was : Starts wear line (old line) before
  pub is : new line ≡ Some after
  pub others : (n : ℕ) → n ≢ line → new n ≡ old n
  pub cells : Follows (cell mask) (aging tearing (cell want)) (young_cell before) (young_cell after)
  pub pulses : after.pulses ≡ before.pulses + 1
