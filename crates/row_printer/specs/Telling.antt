-- The lines of a stream, which tells what became of each row of a trace as soon as that is known, each tick to which the banks came, and what
-- waited in each then, how worn the array was, or what a line's newest bytes were, where that was asked.
use Rattle.std.specs.{List.join_with_byte, Prelude.{◌≡◌, ℕ, ◌≤◌, ◌==◌, ◌||◌, Bool, true, false, IsTrue, is_some, List, [], ◌∷◌, ◌++◌, codes, decimal, Option, Some, None}}
use Rattle.hex.specs.Hex.{encode_lower}
use Rattle.cell_rows.specs.declared.array.LineEnergy.{LineEnergy}
use Rattle.bank_shape.specs.{declared.Home.Home, declared.Home.TheVariants.{Guarded, Array}, declared.pace.Policy.Policy, declared.pace.Policy.TheVariants.{Pause, Plain, Cancel}}
use Rattle.result_rows.specs.{Outcomes.op_of, RowText.outcome_fields, Table.with_outcome, declared.Outcome.Outcome}
use Rattle.row_printer.specs.{declared.told.ArrayWear.ArrayWear, declared.told.Backlog.Backlog, declared.told.Mark.Mark, declared.told.Mark.TheVariants.{Going, Exhausted, Halted}}
use Rattle.row_printer.specs.{declared.told.Told.Told, declared.told.Told.TheVariants.{Became, Bank, Looked, Peeked, Settled}, declared.told.ToldShape.ToldShape}
use Rattle.row_printer.specs.{declared.told.PeekedLine.PeekedLine, declared.told.ToldRest.ToldRest}

-- the first line of a stream
abbrev pub told_header : List ℕ
told_header = codes "row,outcome,tick,place,data\n"

-- the word of a policy, and of where registers are kept: as the options have them
abbrev pub policy_word : Policy → List ℕ
policy_word Pause = codes "pause"
policy_word Plain = codes "plain"
policy_word Cancel = codes "cancel"

abbrev pub home_word : Home → List ℕ
home_word Guarded = codes "guarded"
home_word Array = codes "array"

-- the version of the row of a shape: 2 where it tells more than the shape
abbrev pub version_of : Option ToldRest → ℕ
version_of None = 1
version_of (Some rest) = 2

-- what it tells besides: the seed, after how many stores a gap moves, the ticks of a sense and of an iteration, the policy, and where registers are kept
abbrev pub rest_text : Option ToldRest → List ℕ
rest_text None = []
rest_text (Some rest) =
    codes " "
    ++ join_with_byte 32 (decimal rest.seed ∷ decimal rest.psi ∷ decimal rest.read_ticks ∷ decimal rest.iter_ticks ∷ policy_word rest.policy ∷ home_word rest.home ∷ [])

-- the line of the shape of a module whose lines have n bytes, at tick 0: the version of the format; banks, regions of a bank, lines of a region,
-- spares of a bank, bytes of a line, the writes that the queue of a bank holds, and the reads that may wait there; and what else is told
abbrev pub shape_row : ℕ → ToldShape → List ℕ
shape_row n shape =
    codes ",shape,0," ++ decimal (version_of shape.rest) ++ codes ","
    ++ join_with_byte 32
    (decimal shape.banks ∷ decimal shape.regions ∷ decimal shape.lines ∷ decimal shape.spares ∷ decimal n ∷ decimal shape.writes ∷ decimal shape.reads ∷ [])
    ++ rest_text shape.rest ++ codes "\n"

-- what stands in front of all lines: the header, and behind it the module's shape, where that is told
abbrev pub told_head : ℕ → Option ToldShape → List ℕ
told_head n None = told_header
told_head n (Some shape) = told_header ++ shape_row n shape

-- the line that answers a settle: a tick, and no number
abbrev pub settled_row : ℕ → List ℕ
settled_row tick = codes ",settled," ++ decimal tick ++ codes ",,\n"

-- the word of a mark
abbrev pub mark_word : Mark → List ℕ
mark_word Going = codes "going"
mark_word Exhausted = codes "exhausted"
mark_word Halted = codes "halted"

-- the line of a bank at a tick: its number, the writes and the reads that wait there, and its mark
abbrev pub bank_row : ℕ → Backlog → List ℕ
bank_row tick backlog =
    codes ",bank," ++ decimal tick ++ codes "," ++ decimal backlog.bank ++ codes "," ++ decimal backlog.writes ++ codes " " ++ decimal backlog.reads
    ++ codes " " ++ mark_word backlog.mark ++ codes "\n"

-- how often was sensed, and how many cells were driven to 1 and to 0, with blanks between; no digit where nothing is told
abbrev pub driven_text : Option LineEnergy → List ℕ
driven_text None = codes "  "
driven_text (Some energy) = join_with_byte 32 (decimal energy.senses ∷ decimal energy.set ∷ decimal energy.reset ∷ [])

-- the line of a look at a tick: how worn the array is, in the numbers of a snapshot with blanks between
abbrev pub wear_row : ℕ → ArrayWear → List ℕ
wear_row tick wear =
    codes ",wear," ++ decimal tick ++ codes ",,"
    ++ join_with_byte 32 (decimal wear.pulses ∷ decimal wear.most ∷ decimal wear.mean ∷ decimal wear.pointers ∷ driven_text wear.energy ∷ [])
    ++ codes "\n"

-- the line of a peek at a tick: the line's number, and its newest bytes in lower-case hexadecimal digits
abbrev pub bytes_row : {n : ℕ} → ℕ → PeekedLine n → List ℕ
bytes_row tick newest = codes ",bytes," ++ decimal tick ++ codes "," ++ decimal newest.line ++ codes "," ++ encode_lower newest.bytes ++ codes "\n"

module _ {n : ℕ} where
  -- the line of one outcome: the row's number, and what became of it
  abbrev pub told_row : ℕ → Outcome n → List ℕ
  told_row row outcome = join_with_byte 44 (decimal row ∷ outcome_fields outcome) ++ codes "\n"

  -- a line
  abbrev pub told_line : Told n → List ℕ
  told_line (Became row outcome) = told_row row outcome
  told_line (Bank tick backlog) = bank_row tick backlog
  told_line (Looked tick wear) = wear_row tick wear
  told_line (Peeked tick newest) = bytes_row tick newest
  told_line (Settled tick) = settled_row tick

  -- the lines, in the order in which they were told
  abbrev pub told_text : List (Told n) → List ℕ
  told_text [] = []
  told_text (line ∷ told) = told_line line ++ told_text told

  -- the outcomes among the lines, each with its row
  abbrev pub outcomes_in : List (Told n) → List (ℕ × Outcome n)
  outcomes_in [] = []
  outcomes_in (Became row outcome ∷ told) = (row, outcome) ∷ outcomes_in told
  outcomes_in (Bank tick backlog ∷ told) = outcomes_in told
  outcomes_in (Looked tick wear ∷ told) = outcomes_in told
  outcomes_in (Peeked tick newest ∷ told) = outcomes_in told
  outcomes_in (Settled tick ∷ told) = outcomes_in told

  -- outcomes as lines
  abbrev pub became : List (ℕ × Outcome n) → List (Told n)
  became [] = []
  became (one ∷ outcomes) = Became one.0 one.1 ∷ became outcomes

  -- whether there is one among outcomes
  abbrev pub some_told : List (ℕ × Outcome n) → Bool
  some_told [] = false
  some_told (one ∷ outcomes) = true

  -- a table once these outcomes are told
  abbrev pub recorded : List (ℕ × Outcome n) → List (Outcome n) → List (Outcome n)
  recorded [] table = table
  recorded (one ∷ outcomes) table = recorded outcomes (with_outcome table one.0 one.1)

  -- whether the outcome of a row is among these
  abbrev pub tells : List (ℕ × Outcome n) → ℕ → Bool
  tells [] row = false
  tells (one ∷ outcomes) row = (one.0 == row) || tells outcomes row

  -- each of these is an outcome of a row of a table with so many places, and no two are of one row
  abbrev pub TellsOnce : ℕ → List (ℕ × Outcome n) → Type 0
  TellsOnce most [] = Unit {0}
  TellsOnce most (one ∷ outcomes) =
      (1 ≤ one.0) × (one.0 ≤ most) × IsTrue (is_some (op_of one.1)) × (tells outcomes one.0 ≡ false) × TellsOnce most outcomes
