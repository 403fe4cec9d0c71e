-- The law of the places and of wear, of its parts.
use Rattle.std.proofs.Common.{ℕ}
use Rattle.bank_laws.{specs.Laws.PlaceLaw, proofs.Resting.ends-still}
use Rattle.place_laws.proofs.{Placed.placed_law, Pulses.pulse_law, Taken.{worn_law, taken_law}}

pub place_law : (n m : ℕ) → PlaceLaw n m
place_law n m off e shape pace xs array sized l ends leaves = record {
  worn = worn_law off n m e shape pace xs array sized l ends leaves;
  pulses = pulse_law n m e shape pace xs array sized l (ends-still shape off pace xs ends) leaves;
  placed = placed_law n m e shape pace xs array sized l leaves;
  taken = taken_law off n m e shape pace xs array sized l ends leaves;
}
