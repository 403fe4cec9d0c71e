-- A line's newest bytes have the length of a line.
use Rattle.std.proofs.Common.{◌≡◌, ℕ, ◌==◌, cond, ◌∙◌, Bool, true, false, List, [], ◌∷◌, length}
use Rattle.std.proofs.lemmas.List.{length-replicate}
use Rattle.masked_bytes.{specs.Masked.laid, proofs.Layering.length-laid}
use Rattle.bank_shape.specs.declared.answer.WriteAnswer.TheVariants as wrote
use Rattle.bank_model.specs.Events.{BankEvent, Write, Read, Serve, Begin, Iterate, Cut, newest}

length-laid_if : (b : Bool) (bytes : List ℕ) (given : List Bool) (under : List ℕ) (n : ℕ) → length under ≡ n → length (cond b (laid bytes given under) under) ≡ n
length-laid_if true bytes given under n long = length-laid bytes given under ∙ long
length-laid_if false bytes given under n long = long

-- a newest line has n bytes
pub length-newest : {n : ℕ} (h : List (BankEvent n)) (line : ℕ) → length (newest h line) ≡ n
length-newest {n = n} [] line = length-replicate n 0
length-newest {n = n} (Write row at bytes given wrote.Accepted ∷ h) line = length-laid_if (at == line) bytes given (newest h line) n (length-newest h line)
length-newest {n = n} (Write row at bytes given (wrote.Merged old) ∷ h) line = length-laid_if (at == line) bytes given (newest h line) n (length-newest h line)
length-newest (Write row at bytes given wrote.Full ∷ h) line = length-newest h line
length-newest (Write row at bytes given wrote.Exhausted ∷ h) line = length-newest h line
length-newest (Read row at answer ∷ h) line = length-newest h line
length-newest (Serve answer ∷ h) line = length-newest h line
length-newest (Begin answer ∷ h) line = length-newest h line
length-newest (Iterate answer ∷ h) line = length-newest h line
length-newest (Cut tearing ∷ h) line = length-newest h line
