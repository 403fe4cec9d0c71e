-- The events of a bank since power-up, the newest first, and what an accepted write leaves.
use Rattle.std.specs.Prelude.{ℕ, ◌<◌, ◌==◌, Bool, if◌then◌else◌, List, [], ◌∷◌, replicate}
use Rattle.masked_bytes.specs.Masked.{laid}
use Rattle.bank_shape.specs.{declared.answer.ReadAnswer.ReadAnswer, declared.answer.Served.Served, declared.answer.Step.Step, declared.answer.WriteAnswer.WriteAnswer}
use Rattle.bank_shape.specs.declared.answer.WriteAnswer.TheVariants as wrote

-- an event of a bank of lines of n bytes, with its arguments and its answer.
-- A write gives those bytes that `given` says; a cut may tear the line write that runs
pub data BankEvent (n : ℕ) : Type 0 where
  Write : (row line : ℕ) (bytes : List ℕ) (given : List Bool) (answer : WriteAnswer) → BankEvent n
  Read : (row line : ℕ) (answer : ReadAnswer n) → BankEvent n
  Serve : (answer : Served n) → BankEvent n
  Begin : (answer : Step) → BankEvent n
  Iterate : (answer : Step) → BankEvent n
  Cut : (tearing : Bool) → BankEvent n

module _ {n : ℕ} where
  -- byte for byte the newest of the writes of a line that were accepted and give the byte, or 0
  abbrev pub newest : List (BankEvent n) → ℕ → List ℕ
  newest [] line = replicate n 0
  newest (Write row at bytes given wrote.Accepted ∷ h) line = if at == line then laid bytes given (newest h line) else newest h line
  newest (Write row at bytes given (wrote.Merged old) ∷ h) line = if at == line then laid bytes given (newest h line) else newest h line
  newest (_ ∷ h) line = newest h line

  -- the events up to and with the write of this row
  abbrev pub up_to : ℕ → List (BankEvent n) → List (BankEvent n)
  up_to row [] = []
  up_to row (Write at line bytes given answer ∷ h) = if at == row then Write at line bytes given answer ∷ h else up_to row h
  up_to row (_ ∷ h) = up_to row h

  -- the line of the write of this row
  abbrev pub line_of_row : ℕ → List (BankEvent n) → ℕ
  line_of_row row [] = 0
  line_of_row row (Write at line bytes given answer ∷ h) = if at == row then line else line_of_row row h
  line_of_row row (_ ∷ h) = line_of_row row h

  -- the rows of the writes and reads rise, and are below this one
  abbrev pub RowsBelow : List (BankEvent n) → ℕ → Type 0
  RowsBelow [] bound = Unit {0}
  RowsBelow (Write row line bytes given answer ∷ h) bound = (row < bound) × RowsBelow h row
  RowsBelow (Read row line answer ∷ h) bound = (row < bound) × RowsBelow h row
  RowsBelow (_ ∷ h) bound = RowsBelow h bound
