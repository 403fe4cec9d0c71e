-- What a bank may answer after its events.
use Rattle.std.specs.Prelude.{◌≡◌, ℕ, ◌+◌, ◌*◌, ◌<◌, ◌==◌, ◌&&◌, ◌||◌, not, Bool, IsTrue, if◌then◌else◌, List, [], ◌∷◌, length, Option, Some, None}
use Rattle.masked_bytes.specs.{Entries.{layer_of, head_row, candidate}, Masked.{gives_all, IsMasked}}
use Rattle.bank_shape.specs.{Kinds.is_store, Shape.slots_of, declared.BankShape.BankShape, declared.Work.Work, declared.Work.TheVariants.{Store, Copy}}
use Rattle.bank_shape.specs.{declared.answer.ReadAnswer.ReadAnswer, declared.answer.Served.Served, declared.answer.Step.Step, declared.answer.WriteAnswer.WriteAnswer}
use Rattle.bank_shape.specs.declared.answer.WriteAnswer.TheVariants as wrote
use Rattle.bank_shape.specs.declared.answer.ReadAnswer.TheVariants as came
use Rattle.bank_shape.specs.declared.answer.Step.TheVariants as did
use Rattle.bank_model.specs.After.{work_after, slot_of_work, array_line_after, stands_at_after, may_begin_after}
use Rattle.bank_model.specs.{Events.{BankEvent, Write, Read, Serve, Begin, Iterate, Cut, newest}, History.{Awaited, queue, waits, retired, has_exhausted, in_progress, iterated}}

module _ {n : ℕ} (shape : BankShape) (h : List (BankEvent n)) where
  -- a store is in progress, so nothing merges into the head of the queue
  abbrev pub head_busy_after : Bool
  head_busy_after = in_progress h && is_store (work_after shape h)

  -- the answer to a write that may merge into the entry of a row, or into none
  abbrev pub accept_answer : Option ℕ → WriteAnswer
  accept_answer (Some old) = wrote.Merged old
  accept_answer None = if length (queue shape h) == shape.writes then wrote.Full else wrote.Accepted

  -- the answer to a write of a line
  abbrev pub write_answer : ℕ → WriteAnswer
  write_answer line =
      if has_exhausted h then wrote.Exhausted else accept_answer (candidate head_busy_after (queue shape h) line)

  -- the answer to a read of a line: it is forwarded where the queue gives every byte of it
  abbrev pub read_answer : ℕ → ReadAnswer n
  read_answer line =
      if gives_all ((layer_of (queue shape h) line).given) then came.Forwarded (newest h line)
      else (if length (waits shape h) == shape.reads then came.Busy else came.Waiting)

  -- a serve answers the first read that waits, from the array line where its line stands, with the bytes that it is owed
  abbrev pub IsServed : List Awaited → Served n → Type 0
  IsServed [] answer = ⊥
  IsServed (w ∷ ws) answer = (answer.row ≡ w.row) × (answer.place ≡ stands_at_after shape h w.line) × (answer.bytes ≡ w.newest)

  -- a begin of a work may answer this: a store ends with the head's row, and a copy with its move
  abbrev pub IsDone : Work → Step → Type 0
  IsDone work did.More = Unit {0}
  IsDone (Store line slot) (did.Stored row place) = (row ≡ head_row (queue shape h)) × (place ≡ array_line_after shape h slot)
  IsDone (Copy region step) (did.Moved moved) = moved ≡ step
  IsDone _ _ = ⊥

  -- an iteration of a work may answer this: that too, or a retirement while a spare is left, or else exhaustion
  abbrev pub IsIterated : Work → Step → Type 0
  IsIterated work (did.Retired slot line) =
      (slot ≡ slot_of_work shape h work) × (line ≡ slots_of shape + length (retired h)) × (length (retired h) < shape.spares)
  IsIterated work did.Exhausted = length (retired h) ≡ shape.spares
  IsIterated work answer = IsDone work answer

  -- an event meets its condition, and its answer is one that the bank may give. A line write takes at most so many iterations
  abbrev pub MayHappen : ℕ → BankEvent n → Type 0
  MayHappen most (Write row line bytes given answer) =
      (line < shape.regions * shape.lines) × IsMasked n bytes given × (answer ≡ write_answer line)
  MayHappen most (Read row line answer) = (line < shape.regions * shape.lines) × (answer ≡ read_answer line)
  MayHappen most (Serve answer) = IsServed (waits shape h) answer
  MayHappen most (Begin answer) = IsTrue (may_begin_after shape h) × IsDone (work_after shape h) answer
  MayHappen most (Iterate answer) =
      IsTrue (in_progress h) × IsIterated (work_after shape h) answer × (iterated h < most) × (answer ≡ did.More → iterated h + 1 < most)
  MayHappen most (Cut tearing) = IsTrue (not tearing || in_progress h)

-- each event of a history may happen after those before it
abbrev pub MayAll : {n : ℕ} → BankShape → ℕ → List (BankEvent n) → Type 0
MayAll shape most [] = Unit {0}
MayAll shape most (event ∷ h) = MayHappen shape h most event × MayAll shape most h
