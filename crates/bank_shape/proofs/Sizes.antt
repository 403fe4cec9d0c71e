-- Slots and control lines of a bank are no more than its sizes allow; for the crates above.
use Rattle.std.proofs.Common.{ℕ, ◌+◌, ◌*◌, ◌<◌, ◌≤◌, arith}
use Rattle.std.proofs.lemmas.Nat.{mul-add-lt}
use Rattle.bank_shape.specs.{Shape.{slots_of, slot_at, if_array}, declared.BankShape.BankShape, declared.Home.Home, declared.Home.TheVariants.{Guarded, Array}}

-- the slot of a place is one of the bank
pub slot_at-within : (shape : BankShape) (region place : ℕ) → region < shape.regions → place ≤ shape.lines → slot_at shape region place < slots_of shape
slot_at-within shape region place h k =
    let below : region * (shape.lines + 1) + place < (shape.lines + 1) * shape.regions = mul-add-lt region (shape.lines + 1) place shape.regions h (omega arith) in
    omega (arith, below)

-- there are no more control lines than they would be in the array
pub if_array-le : (home : Home) (count : ℕ) → if_array home count ≤ count
if_array-le Guarded count = omega arith
if_array-le Array count = omega arith
