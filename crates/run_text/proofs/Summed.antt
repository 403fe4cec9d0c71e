-- What one more line does to the sum of the pulses of an array.
use Rattle.std.proofs.Common.{ℕ, ◌+◌, ◌≡◌, refl, add-one, arith}
use Rattle.cell_rows.specs.Device.{ArrayState}
use Rattle.run_text.specs.Pulses.{at_most_u64, pulses_of_first}

module _ {B M : ℕ} where
  -- no line has no pulses
  pub pulses_of_none : (array : ArrayState B M) → pulses_of_first array 0 ≡ 0
  unfolding pulses_of_first
  pulses_of_none array = refl

  -- the sum up to a line, by that of the lines before it
  pub pulses_of_more : (array : ArrayState B M) (lines : ℕ) → pulses_of_first array (lines + 1) ≡ pulses_of_first array lines + (array.line lines).pulses
  unfolding pulses_of_first
  pulses_of_more array lines = rw (add-one lines) refl

  -- a line's pulses, added to a sum that stays at the greatest u64
  pub capped_sum_more : (array : ArrayState B M) (lines sum pulses : ℕ) → sum ≡ at_most_u64 (pulses_of_first array lines) → pulses ≡ (array.line lines).pulses
      → at_most_u64 (sum + pulses) ≡ at_most_u64 (pulses_of_first array (lines + 1))
  capped_sum_more array lines sum pulses is more =
      let total : pulses_of_first array (lines + 1) ≡ pulses_of_first array lines + (array.line lines).pulses = pulses_of_more array lines in
      omega arith
