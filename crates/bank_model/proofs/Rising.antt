-- The rows of a history's arrivals rise.
use Rattle.std.proofs.Common.{ℕ, ◌≤◌, List, [], ◌∷◌, arith}
use Rattle.bank_model.specs.Events.{BankEvent, Write, Read, Serve, Begin, Iterate, Cut, RowsBelow}

-- rows below one are below a greater one
pub RowsBelow-more : {n : ℕ} (h : List (BankEvent n)) (a b : ℕ) → a ≤ b → RowsBelow h a → RowsBelow h b
RowsBelow-more [] a b le r = tt
RowsBelow-more (Write row line bytes given answer ∷ h) a b le r = (omega (arith, r.0), r.1)
RowsBelow-more (Read row line answer ∷ h) a b le r = (omega (arith, r.0), r.1)
RowsBelow-more (Serve answer ∷ h) a b le r = RowsBelow-more h a b le r
RowsBelow-more (Begin answer ∷ h) a b le r = RowsBelow-more h a b le r
RowsBelow-more (Iterate answer ∷ h) a b le r = RowsBelow-more h a b le r
RowsBelow-more (Cut tearing ∷ h) a b le r = RowsBelow-more h a b le r
