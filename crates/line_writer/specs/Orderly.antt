-- Lines of which no cell is stuck: their check cells hold 0, since a write pulses one of them only once a cell is stuck.
use Rattle.std.specs.Prelude.{◌≡◌, ℕ, ◌+◌, ◌*◌, ◌<◌, ◌≤◌, false}
use Rattle.cell_rows.specs.{Device.{ArrayState, LineState}, Rows.cell}

module _ {n m : ℕ} where
  -- no cell of a line is stuck
  abbrev pub IsLive : LineState n m → Type 0
  IsLive line = (number : ℕ) → line.stuck number ≡ false

  -- while no cell of a line is stuck, each check cell holds 0; and no live cell has missed more often than this since its last change
  pub record IsOrderly (most : ℕ) (line : LineState n m) : Type 0 where
    pub checks : IsLive line → (number : ℕ) → 8 * n ≤ number → cell line.held number ≡ false
    pub missed : (number : ℕ) → line.stuck number ≡ false → line.misses number ≤ most

  -- so many lines of an array, from one on, are orderly, with no more misses than its cells keep to
  abbrev pub AreOrderly : ArrayState n m → ℕ → ℕ → Type 0
  AreOrderly array from lines = (line : ℕ) → line < lines → IsOrderly array.bounds.misses (array.line (from + line))
