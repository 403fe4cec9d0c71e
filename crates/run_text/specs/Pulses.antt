-- The pulses of a whole array.
use Rattle.std.specs.Prelude.{ℕ, zero, suc, ◌+◌, ◌-◌, ◌^◌, min}
use Rattle.cell_rows.specs.Device.{ArrayState}

-- a number, or the greatest u64 where it is greater
abbrev pub at_most_u64 : ℕ → ℕ
at_most_u64 number = min number (2 ^ 64 - 1)

module _ {B M : ℕ} where
  -- the sum of the pulses of so many lines, from line 0 on
  unfoldable pub pulses_of_first : ArrayState B M → ℕ → ℕ
  pulses_of_first array zero = 0
  pulses_of_first array (suc lines) = pulses_of_first array lines + (array.line lines).pulses

  -- the sum of the pulses of all lines, up to the greatest u64
  abbrev pub pulses_in_all : ArrayState B M → ℕ
  pulses_in_all array = at_most_u64 (pulses_of_first array array.lines)
