-- Young lines that were pulsed less often than so many times.
use Rattle.std.specs.Prelude.{ℕ, ◌≡◌, ◌≢◌, ◌+◌, ◌<◌, Bool, Option, Some}
use Rattle.cell_rows.specs.{Rows.cell, declared.row.Cells.Cells}
use Rattle.seeded_lines.specs.{Follows.Follows, Young.{aging, young_cell}, declared.young.Young.Young}

-- a pulse or a tear of such a line that has a page, and no other line changes
pub record AgesBelow {B M : ℕ} (limit line : ℕ) (tearing : Bool) (mask want : Cells B M) (old new : ℕ → Option (Young B M)) : Type 0 where
  pub before : Young B M
  pub after : Young B M
  pub was : old line ≡ Some before
  pub few : before.pulses < limit
  pub is : new line ≡ Some after
  pub others : (n : ℕ) → n ≢ line → new n ≡ old n
  pub cells : Follows (cell mask) (aging tearing (cell want)) (young_cell before) (young_cell after)
  pub pulses : after.pulses ≡ before.pulses + 1
