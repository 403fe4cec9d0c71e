-- What the entries of a bank's queue have from the writes of its history.
use Rattle.std.specs.Prelude.{◌≡◌, ℕ, ◌==◌, ◌&&◌, ◌||◌, Bool, true, false, if◌then◌else◌, IsTrue, List, [], ◌∷◌, Option, Some, None, is_none, slice_get}
use Rattle.masked_bytes.specs.{Entries.{Layer, no_layer, stacked, layer_by, newest_row}, Masked.{laid, gives_all}, declared.entry.Entry.Entry}
use Rattle.bank_shape.specs.declared.BankShape.{BankShape}
use Rattle.bank_shape.specs.declared.answer.WriteAnswer.TheVariants as wrote
use Rattle.bank_shape.specs.declared.answer.Step.TheVariants as did
use Rattle.bank_model.specs.{Answers.MayAll, Events.{BankEvent, Write, Begin, Iterate, RowsBelow}, History.{queue, due_after}}

module _ {n : ℕ} where
  -- the line of the write of a row, if that was accepted or merged
  abbrev pub line_written : ℕ → List (BankEvent n) → Option ℕ
  line_written row [] = None
  line_written row (Write at line bytes given wrote.Accepted ∷ h) = if at == row then Some line else line_written row h
  line_written row (Write at line bytes given (wrote.Merged old) ∷ h) = if at == row then Some line else line_written row h
  line_written row (_ ∷ h) = line_written row h

  -- what the write of a row gives, laid over what that gave into whose entry it was merged
  abbrev pub given_by : ℕ → List (BankEvent n) → Layer
  given_by row [] = no_layer n
  given_by row (Write at line bytes given wrote.Accepted ∷ h) = if at == row then record { bytes = bytes; given = given } else given_by row h
  given_by row (Write at line bytes given (wrote.Merged old) ∷ h) =
      if at == row then stacked (record { bytes = bytes; given = given }) (given_by old h) else given_by row h
  given_by row (_ ∷ h) = given_by row h

  -- the row of the last write of a line that was accepted or merged
  abbrev pub last_write : List (BankEvent n) → ℕ → Option ℕ
  last_write [] line = None
  last_write (Write row at bytes given wrote.Accepted ∷ h) line = if at == line then Some row else last_write h line
  last_write (Write row at bytes given (wrote.Merged old) ∷ h) line = if at == line then Some row else last_write h line
  last_write (_ ∷ h) line = last_write h line

  -- whether a store of the queue's head was begun: a begin is of a store where no gap move is due
  abbrev pub is_head_begun : BankShape → List (BankEvent n) → Bool
  is_head_begun shape [] = false
  is_head_begun shape (Begin (did.Stored row place) ∷ h) = false
  is_head_begun shape (Begin _ ∷ h) = is_none (due_after shape h) || is_head_begun shape h
  is_head_begun shape (Iterate (did.Stored row place) ∷ h) = false
  is_head_begun shape (_ ∷ h) = is_head_begun shape h

  -- an entry gives exactly these bytes of its own writes; or, completed by a begin, every byte, and these where they are given
  abbrev pub Gives : Bool → Layer → Entry n → Type 0
  Gives false own entry = layer_by entry ≡ own
  Gives true own entry = IsTrue (gives_all entry.given) × (laid own.bytes own.given entry.bytes ≡ entry.bytes)

-- whatever stands at a place of the queue after any events that a bank allows, whose rows rise
abbrev pub HoldsOfEntries : ((n : ℕ) → BankShape → List (BankEvent n) → ℕ → Entry n → Type 0) → Type 0
HoldsOfEntries Holds =
    (n most bound place : ℕ) (shape : BankShape) (h : List (BankEvent n)) (entry : Entry n)
    → MayAll shape most h → RowsBelow h bound → slice_get (queue shape h) place ≡ Some entry → Holds n shape h place entry

-- an entry has the line of its own write
abbrev pub EntryLineLaw : Type 0
EntryLineLaw = HoldsOfEntries (λ n shape h place entry. line_written entry.row h ≡ Some entry.line)

-- an entry gives exactly the bytes that its own write and those before it in its entry give; only the head, once a store of it was
-- begun, gives every byte
abbrev pub EntryBytesLaw : Type 0
EntryBytesLaw = HoldsOfEntries (λ n shape h place entry. Gives (place == 0 && is_head_begun shape h) (given_by entry.row h) entry)

-- the newest entry of a line is that of the line's last write that was accepted or merged
abbrev pub LastWriteLaw : Type 0
LastWriteLaw =
    (n most bound line row : ℕ) (shape : BankShape) (h : List (BankEvent n))
    → MayAll shape most h → RowsBelow h bound → newest_row (queue shape h) line ≡ Some row → last_write h line ≡ Some row
