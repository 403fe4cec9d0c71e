-- What a list of a bank's events leaves: the stores and moves of its regions, its retired slots, its queue and its waiting reads.
use Rattle.std.specs.Prelude.{ℕ, ◌+◌, ◌*◌, ◌/◌, ◌==◌, nat_le, Bool, true, false, if◌then◌else◌, List, [], ◌∷◌, ◌++◌, drop, Option, Some, None}
use Rattle.masked_bytes.specs.{Entries.{Layer, merged, completed, layer_of}, declared.entry.Entry.Entry}
use Rattle.bank_shape.specs.{declared.BankShape.BankShape, declared.answer.Step.Step}
use Rattle.bank_shape.specs.declared.answer.WriteAnswer.TheVariants as wrote
use Rattle.bank_shape.specs.declared.answer.ReadAnswer.TheVariants as came
use Rattle.bank_shape.specs.declared.answer.Step.TheVariants as did
use Rattle.bank_model.specs.Events.{BankEvent, Write, Read, Serve, Begin, Iterate, Cut, newest, line_of_row}

-- a read that waits, with the bytes that it is owed, and those of the queue that are kept with it
pub record Awaited : Type 0 where
  pub row : ℕ
  pub line : ℕ
  pub newest : List ℕ
  pub kept : List ℕ
  pub given : List Bool

-- a read of a line, as it begins to wait
abbrev pub awaited : ℕ → ℕ → List ℕ → Layer → Awaited
awaited row line owed layer = record { row = row; line = line; newest = owed; kept = layer.bytes; given = layer.given }

-- the first of a list, or another
abbrev pub first_or : ℕ → List ℕ → ℕ
first_or other [] = other
first_or other (x ∷ xs) = x

-- whether a line write goes on
abbrev pub goes_on : Step → Bool
goes_on did.More = true
goes_on (did.Stored row place) = false
goes_on (did.Moved step) = false
goes_on (did.Retired slot line) = false
goes_on did.Exhausted = false

module _ {n : ℕ} where
  -- the lines that were stored, the newest first
  abbrev pub stores : List (BankEvent n) → List ℕ
  stores [] = []
  stores (Begin (did.Stored row place) ∷ h) = line_of_row row h ∷ stores h
  stores (Iterate (did.Stored row place) ∷ h) = line_of_row row h ∷ stores h
  stores (_ ∷ h) = stores h

  -- how often a region of so many lines had a store
  abbrev pub stored_in : ℕ → List (BankEvent n) → ℕ → ℕ
  stored_in lines [] region = 0
  stored_in lines (Begin (did.Stored row place) ∷ h) region = (if line_of_row row h / lines == region then 1 else 0) + stored_in lines h region
  stored_in lines (Iterate (did.Stored row place) ∷ h) region = (if line_of_row row h / lines == region then 1 else 0) + stored_in lines h region
  stored_in lines (_ ∷ h) region = stored_in lines h region

  -- how often its gap moved: a move is of the region of the last store
  abbrev pub moved_in : ℕ → List (BankEvent n) → ℕ → ℕ
  moved_in lines [] region = 0
  moved_in lines (Begin (did.Moved step) ∷ h) region = (if first_or 0 (stores h) / lines == region then 1 else 0) + moved_in lines h region
  moved_in lines (Iterate (did.Moved step) ∷ h) region = (if first_or 0 (stores h) / lines == region then 1 else 0) + moved_in lines h region
  moved_in lines (_ ∷ h) region = moved_in lines h region

  -- the region that is due to move: that of the last store, once it has psi stores more than its moves account for
  abbrev pub due_after : BankShape → List (BankEvent n) → Option ℕ
  due_after shape h =
      let region = first_or 0 (stores h) / shape.lines in
      if nat_le (shape.psi * (moved_in shape.lines h region + 1)) (stored_in shape.lines h region) then Some region else None

  -- the slots that were retired, the oldest first
  abbrev pub retired : List (BankEvent n) → List ℕ
  retired [] = []
  retired (Begin (did.Retired slot line) ∷ h) = retired h ++ slot ∷ []
  retired (Iterate (did.Retired slot line) ∷ h) = retired h ++ slot ∷ []
  retired (_ ∷ h) = retired h

  -- whether a line was worn and no spare was left
  abbrev pub has_exhausted : List (BankEvent n) → Bool
  has_exhausted [] = false
  has_exhausted (Begin did.Exhausted ∷ h) = true
  has_exhausted (Iterate did.Exhausted ∷ h) = true
  has_exhausted (_ ∷ h) = has_exhausted h

  -- whether a line write is in progress: the last begin, iteration or cut is a begin or an iteration that goes on
  abbrev pub in_progress : List (BankEvent n) → Bool
  in_progress [] = false
  in_progress (Begin answer ∷ h) = goes_on answer
  in_progress (Iterate answer ∷ h) = goes_on answer
  in_progress (Cut tearing ∷ h) = false
  in_progress (_ ∷ h) = in_progress h

  -- how often the line write in progress was iterated
  abbrev pub iterated : List (BankEvent n) → ℕ
  iterated [] = 0
  iterated (Begin answer ∷ h) = 0
  iterated (Iterate answer ∷ h) = iterated h + 1
  iterated (Cut tearing ∷ h) = 0
  iterated (_ ∷ h) = iterated h

  -- a begin of a store completes the head with the newest bytes of its line; one of a copy doesn't touch the queue
  abbrev pub begun : Option ℕ → (ℕ → List ℕ) → List (Entry n) → List (Entry n)
  begun (Some region) newest_of es = es
  begun None newest_of [] = []
  begun None newest_of (e ∷ es) = completed (newest_of e.line) (e ∷ es)

  -- the writes that are accepted and not stored, the oldest first; a merged one stands in the place of the older
  abbrev pub queue : BankShape → List (BankEvent n) → List (Entry n)
  queue shape [] = []
  queue shape (Write row line bytes given wrote.Accepted ∷ h) = queue shape h ++ record { row = row; line = line; bytes = bytes; given = given } ∷ []
  queue shape (Write row line bytes given (wrote.Merged old) ∷ h) = merged old row bytes given (queue shape h)
  queue shape (Begin (did.Stored row place) ∷ h) = drop 1 (queue shape h)
  queue shape (Begin _ ∷ h) = begun (due_after shape h) (newest h) (queue shape h)
  queue shape (Iterate (did.Stored row place) ∷ h) = drop 1 (queue shape h)
  queue shape (_ ∷ h) = queue shape h

  -- the reads that wait, the oldest first: a serve takes the first away, a cut takes all
  abbrev pub waits : BankShape → List (BankEvent n) → List Awaited
  waits shape [] = []
  waits shape (Read row line came.Waiting ∷ h) = waits shape h ++ awaited row line (newest h line) (layer_of (queue shape h) line) ∷ []
  waits shape (Serve answer ∷ h) = drop 1 (waits shape h)
  waits shape (Cut tearing ∷ h) = []
  waits shape (_ ∷ h) = waits shape h
