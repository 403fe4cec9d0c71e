-- The rows of a table, in words.
use Rattle.std.specs.Prelude.{ℕ, ◌-◌, List, [], ◌∷◌, ◌++◌, codes, decimal, Option, Some, None, length, slice_get}
use Rattle.hex.specs.Hex.{encode_lower}
use Rattle.trace_reader.specs.{declared.event.Event.Event, declared.event.EventOp.EventOp}
use Rattle.trace_reader.specs.declared.event.EventOp.TheVariants as op
use Rattle.result_rows.specs.{Outcomes.{bytes_of, outcome_word, tick_of}, declared.Outcome.Outcome}
use Rattle.check_telling.specs.declared.mates.Numbered.{Numbered}

-- the tick of an outcome
abbrev pub tick_on : List ℕ → Option ℕ → List ℕ
tick_on text None = text ++ codes " "
tick_on text (Some tick) = text ++ codes " " ++ decimal tick

-- the bytes of an answer
abbrev pub data_on : List ℕ → Option (List ℕ) → List ℕ
data_on text None = text
data_on text (Some bytes) = text ++ codes ", data " ++ encode_lower bytes

module _ {n : ℕ} where
  -- what a row asks for
  abbrev pub asks_on : List ℕ → EventOp n → List ℕ
  asks_on text (op.Read line) = text ++ codes "read of line " ++ decimal line
  asks_on text (op.Write line bytes) = text ++ codes "write of line " ++ decimal line
  asks_on text (op.Mask line bytes given) = text ++ codes "write of line " ++ decimal line
  asks_on text op.Cut = text ++ codes "cut"

  -- an outcome by its word and its tick
  abbrev pub outcome_on : List ℕ → Outcome n → List ℕ
  outcome_on text outcome = tick_on (text ++ outcome_word outcome) (tick_of outcome)

  -- the same, and the bytes of an answer
  abbrev pub answer_on : List ℕ → Outcome n → List ℕ
  answer_on text outcome = data_on (outcome_on text outcome) (bytes_of outcome)

  -- a row by its number: when it came, what it asks, and what it was told but for bytes
  abbrev pub row_on : List ℕ → ℕ → Event n → Outcome n → List ℕ
  row_on text number event outcome =
      outcome_on (asks_on (text ++ codes "row " ++ decimal number ++ codes ", tick " ++ decimal event.tick ++ codes ": ") event.op ++ codes ", ") outcome

  -- a row of a table, or its number alone where the table has none of it
  abbrev pub known_on : List ℕ → ℕ → Option (Event n) → Option (Outcome n) → List ℕ
  known_on text number None outcome = text ++ codes "row " ++ decimal number
  known_on text number (Some event) None = text ++ codes "row " ++ decimal number
  known_on text number (Some event) (Some outcome) = row_on text number event outcome

  abbrev pub named_on : List ℕ → List (Event n) → List (Outcome n) → ℕ → List ℕ
  named_on text events outcomes number = known_on text number (slice_get events (number - 1)) (slice_get outcomes (number - 1))

  -- a line of a row, behind the line's key; none where there is no row
  abbrev pub row_line : List ℕ → List ℕ → List (Event n) → List (Outcome n) → Option ℕ → List ℕ
  row_line text key events outcomes None = text
  row_line text key events outcomes (Some number) = named_on (text ++ key) events outcomes number ++ codes "\n"

  -- the numbers of rows
  abbrev pub numbers_on : List ℕ → List (Numbered n) → List ℕ
  numbers_on text [] = text
  numbers_on text (one ∷ rest) = numbers_on (text ++ codes " " ++ decimal one.number) rest

  -- the same, or that there are none
  abbrev pub rows_on : List ℕ → List (Numbered n) → List ℕ
  rows_on text [] = text ++ codes "rows none\n"
  rows_on text (one ∷ rest) = numbers_on (text ++ codes "rows") (one ∷ rest) ++ codes "\n"

  -- how many writes stand in a queue of so many, and which rows they are
  abbrev pub stand_on : List ℕ → ℕ → List (Numbered n) → List ℕ
  stand_on text most rows =
      rows_on (text ++ codes "         stand  " ++ decimal (length rows) ++ codes " of " ++ decimal most ++ codes " writes: ") rows

  -- how many reads wait where so many may, and which rows they are
  abbrev pub waits_on : List ℕ → ℕ → List (Numbered n) → List ℕ
  waits_on text most rows =
      rows_on (text ++ codes "         waits  " ++ decimal (length rows) ++ codes " of " ++ decimal most ++ codes " reads: ") rows
