-- The table of rows that a timed history leaves.
use Rattle.std.specs.{List.list_any, Prelude.{ℕ, ◌==◌, Bool, false, if◌then◌else◌, List, [], ◌∷◌, ◌++◌, Option, Some, None, unwrap_or}}
use Rattle.result_rows.specs.declared.Outcome.{Outcome}
use Rattle.result_rows.specs.declared.Outcome.TheVariants as out
use Rattle.row_rules.specs.{declared.Asks.TheVariants.{Reads, Writes, Cuts}, declared.Row.Row}
use Rattle.bank_shape.specs.{declared.BankShape.BankShape, declared.answer.Step.Step}
use Rattle.bank_shape.specs.declared.answer.WriteAnswer.TheVariants as wrote
use Rattle.bank_shape.specs.declared.answer.ReadAnswer.TheVariants as came
use Rattle.bank_shape.specs.declared.answer.Step.TheVariants as did
use Rattle.bank_model.specs.{Events.{BankEvent, Write, Read, Serve, Begin, Iterate, Cut}, History.{Awaited, waits}, Timing.{Happens, Core, Regs, TimedEvent, core}}

-- this outcome, for this row
abbrev pub on_row : {n : ℕ} → ℕ → ℕ → Outcome n → Option (Outcome n)
on_row at row outcome = if at == row then Some outcome else None

-- what a step of a line write makes of a row
abbrev pub step_outcome : {n : ℕ} → Step → ℕ → ℕ → Option (Outcome n)
step_outcome (did.Stored at place) tick row = on_row at row (out.Stored tick place)
step_outcome _ tick row = None

-- what an event at this tick makes of a row, the reads that wait given
abbrev pub outcome_by : {n : ℕ} → List Awaited → BankEvent n → ℕ → ℕ → Option (Outcome n)
outcome_by ws (Write at line bytes given wrote.Accepted) tick row = None
outcome_by ws (Write at line bytes given (wrote.Merged old)) tick row = on_row old row (out.Merged tick)
outcome_by ws (Write at line bytes given wrote.Full) tick row = on_row at row (out.Full tick)
outcome_by ws (Write at line bytes given wrote.Exhausted) tick row = on_row at row (out.Worn tick)
outcome_by ws (Read at line (came.Forwarded bytes)) tick row = on_row at row (out.Forwarded tick bytes)
outcome_by ws (Read at line came.Busy) tick row = on_row at row (out.Busy tick)
outcome_by ws (Read at line came.Waiting) tick row = None
outcome_by ws (Serve answer) tick row = on_row answer.row row (out.Read tick answer.place answer.bytes)
outcome_by ws (Begin answer) tick row = step_outcome answer tick row
outcome_by ws (Iterate answer) tick row = step_outcome answer tick row
outcome_by ws (Cut tearing) tick row = if list_any (λ w. w.row == row) ws then Some (out.Lost tick) else None

-- what happens makes of a row, after these events
abbrev pub outcome_with : {n m : ℕ} → BankShape → List (TimedEvent n m) → Happens n → ℕ → ℕ → Option (Outcome n)
outcome_with shape xs (Core event) tick row = outcome_by (waits shape (core xs)) event tick row
outcome_with shape xs (Regs event) tick row = None

module _ {n m : ℕ} (shape : BankShape) where
  -- the outcome of a row so far
  abbrev pub outcome_of : List (TimedEvent n m) → ℕ → Outcome n
  outcome_of [] row = out.Unset
  outcome_of (x ∷ xs) row = unwrap_or (outcome_with shape xs x.happens x.tick row) (outcome_of xs row)

-- a write that has no outcome stands in the queue
abbrev pub ended : {n : ℕ} → ℕ → Outcome n → Outcome n
ended tick out.Unset = out.Queued tick
ended tick outcome = outcome

-- the row of an event, with the outcome that the whole history leaves
abbrev pub row_by : {n m : ℕ} → BankShape → List (TimedEvent n m) → BankEvent n → ℕ → Bool → List (Row n)
row_by shape all (Write row line bytes given answer) tick cancels =
    record { tick = tick; asks = Writes line bytes given; outcome = ended tick (outcome_of shape all row) } ∷ []
row_by shape all (Read row line answer) tick cancels = record { tick = tick; asks = Reads line; outcome = outcome_of shape all row } ∷ []
row_by shape all (Cut tearing) tick false = record { tick = tick; asks = Cuts; outcome = out.Cut tick } ∷ []
row_by shape all _ tick cancels = []

-- the row of what happens: an arrival or a cut has one, and a cancel has none
abbrev pub row_with : {n m : ℕ} → BankShape → List (TimedEvent n m) → Happens n → ℕ → Bool → List (Row n)
row_with shape all (Core event) tick cancels = row_by shape all event tick cancels
row_with shape all (Regs event) tick cancels = []

module _ {n m : ℕ} (shape : BankShape) where
  -- the rows of these events, where `all` is the whole history
  abbrev pub rows_from : List (TimedEvent n m) → List (TimedEvent n m) → List (Row n)
  rows_from all [] = []
  rows_from all (x ∷ xs) = row_with shape all x.happens x.tick x.cancels ++ rows_from all xs

  -- the table that the whole history leaves, the newest row first
  abbrev pub table_of : List (TimedEvent n m) → List (Row n)
  table_of xs = rows_from xs xs
