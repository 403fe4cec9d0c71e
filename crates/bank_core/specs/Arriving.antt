-- What becomes of a write that arrives.
use Rattle.std.specs.Prelude.{◌≡◌, ℕ, List, slice_get, IsSomeAnd}
use Rattle.masked_bytes.specs.declared.entry.Entry.{Entry}
use Rattle.protected_queue.specs.declared.accept.Accept.{Accept}
use Rattle.protected_queue.specs.declared.accept.Accept.TheVariants as took
use Rattle.bank_shape.specs.declared.answer.WriteAnswer.{WriteAnswer}
use Rattle.bank_shape.specs.declared.answer.WriteAnswer.TheVariants as wrote
use Rattle.bank_core.specs.{declared.arriving.Arrived.Arrived, declared.arriving.Arrived.TheVariants.{Accepted, Merged, Full, Exhausted}}

-- what the queue made of it, told by a bank that takes writes
abbrev pub arrived_as : Accept → Arrived
arrived_as took.Pushed = Accepted
arrived_as (took.Merged row index) = Merged row index
arrived_as took.Full = Full

-- what it is answered in the history of the bank, which doesn't tell where entries stand
abbrev pub answer_of : Arrived → WriteAnswer
answer_of Accepted = wrote.Accepted
answer_of (Merged row index) = wrote.Merged row
answer_of Full = wrote.Full
answer_of Exhausted = wrote.Exhausted

-- where it was merged into an entry, that at its index has its row now
abbrev pub IsMergedAt : {n : ℕ} → List (Entry n) → ℕ → Arrived → Type 0
IsMergedAt es row (Merged old index) = IsSomeAnd (slice_get es index) (λ entry. entry.row ≡ row)
IsMergedAt es row arrived = Unit {0}
