-- Reads that wait.
use Rattle.std.proofs.Common.{◌≡◌, ℕ, Bool, true, false, List, refl, cond}
use Rattle.bank_shape.specs.declared.answer.ReadAnswer.{ReadAnswer}
use Rattle.bank_shape.specs.declared.answer.ReadAnswer.TheVariants as came

-- a read waits only where the queue doesn't give all bytes
pub waits-some : {n : ℕ} (all full : Bool) (bytes : List ℕ) → ◌≡◌ {A = ReadAnswer n} came.Waiting (cond all (came.Forwarded bytes) (cond full came.Busy came.Waiting)) → all ≡ false
waits-some true full bytes is = absurd (cc)
waits-some false full bytes is = refl
