-- A trace in parts, each bank's rows in one of them, and the outcomes that streams of these parts told of its rows.
use Rattle.std.specs.Prelude.{◌≡◌, ℕ, ◌+◌, ◌<◌, ◌≤◌, ◌==◌, Bool, true, List, [], ◌∷◌, All, None, filter, length}
use Rattle.cell_rows.specs.Device.{ArrayState}
use Rattle.trace_reader.specs.{declared.event.Event.Event, declared.event.EventOp.EventOp, declared.event.EventOp.TheVariants.{Read, Write, Mask, Cut}}
use Rattle.result_rows.specs.declared.Outcome.{Outcome}
use Rattle.result_rows.specs.declared.Outcome.TheVariants as out
use Rattle.row_rules.specs.{Lines.IsOfLines, declared.Row.Row}
use Rattle.trace_rows.specs.Rows.{asks_of, row_of}
use Rattle.bank_timing.specs.Extending.{outcome_in}
use Rattle.module_shape.specs.{Limits.{IsShape, total_of}, declared.raw.RawShape.RawShape}
use Rattle.right_runs.specs.{Banks.bank_of_line, Ends.BankEnd, Runs.RunsRightTo}
use Rattle.end_laws.specs.EndLaws.{IsEndOf}
use Rattle.pcm_module.specs.{State.{ModuleState, bank_at}}
use Rattle.row_printer.specs.{Printing.table_of, declared.told.Told.Told}
use Rattle.trace_stream.specs.{Asked.events_in, declared.asked.Asked.Asked as StreamAsked}
use Rattle.row_stream.specs.Ending.{HasEnded}
use Rattle.parted_laws.specs.Parted.{IsJoined}

module _ {n : ℕ} (home part_of : ℕ → ℕ) (part : ℕ) where
  -- an operation is one for a part: of a line of its banks, or a power cut, where each line has its home and each bank is of a part
  abbrev pub is_for : EventOp n → Bool
  is_for (Read line) = part_of (home line) == part
  is_for (Write line bytes) = part_of (home line) == part
  is_for (Mask line bytes given) = part_of (home line) == part
  is_for Cut = true

  -- the events of a part, in their order
  abbrev pub events_of : List (Event n) → List (Event n)
  events_of events = filter (λ event. is_for event.op) events

-- the ticks of these events, the newest first, never fall
abbrev pub EventTicksFall : {n : ℕ} → List (Event n) → Type 0
EventTicksFall [] = Unit {0}
EventTicksFall (event ∷ events) = All (λ other. other.tick ≤ event.tick) events × EventTicksFall events

-- a stream: what its rows asked, the newest first, the module and the array that it left, how many of its rows have a number, and what was told
pub record Streamed (n m e : ℕ) : Type 0 where
  pub asked : List (StreamAsked n)
  pub module_ : ModuleState n m e
  pub array : ArrayState n m
  pub places : ℕ
  pub told : List (Told n)

-- the outcome that it told of a row of its own
abbrev pub outcome_told : {n m e : ℕ} → Streamed n m e → ℕ → Outcome n
outcome_told stream row = outcome_in (table_of stream.places stream.told) row

module _ {n m e : ℕ} (home part_of : ℕ → ℕ) (streams : ℕ → Streamed n m e) where
  -- what became of an event of a line behind these events: what the part of the line's bank told of it, with the number that it has there
  abbrev pub outcome_of_line : List (Event n) → ℕ → Outcome n
  outcome_of_line below line = outcome_told (streams (part_of (home line))) (length (events_of home part_of (part_of (home line)) below) + 1)

  -- of any event: the power is cut at the tick of its row
  abbrev pub outcome_for : List (Event n) → ℕ → EventOp n → Outcome n
  outcome_for below tick (Read line) = outcome_of_line below line
  outcome_for below tick (Write line bytes) = outcome_of_line below line
  outcome_for below tick (Mask line bytes given) = outcome_of_line below line
  outcome_for below tick Cut = out.Cut tick

  -- the table of the whole trace, the newest row first
  abbrev pub rows_joined : List (Event n) → List (Row n)
  rows_joined [] = []
  rows_joined (event ∷ below) = row_of event (outcome_for below event.tick event.op) ∷ rows_joined below

module _ {n m e : ℕ} (raw : RawShape) (seed : ℕ) (off : Bool) (part_of : ℕ → ℕ) where
  -- the stream of a part was served to its end, of the part's events among these
  pub record ServesPart (events : List (Event n)) (part : ℕ) (stream : Streamed n m e) : Type 0 where
    pub ended : HasEnded raw seed off stream.asked stream.module_ stream.array stream.places stream.told
    pub of_part : events_in stream.asked ≡ events_of (bank_of_line raw seed) part_of part events

  -- a trace was served in parts: the stream of each bank's part was served to its end, and this array is put together of theirs. A number that
  -- is no bank's is of some part, too
  pub record IsServedInParts (events : List (Event n)) (streams : ℕ → Streamed n m e) (array : ArrayState n m) : Type 0 where
    pub parts : (bank : ℕ) → ServesPart events (part_of bank) (streams (part_of bank))
    pub exist : All (λ event. IsOfLines (total_of raw) (asks_of event.op)) events
    pub ticks : EventTicksFall events
    pub joined : IsJoined raw (λ bank. (streams (part_of bank)).array) array

-- then its rows, each of a line with the outcome that was told of it in its part, are those of a right run of the whole trace, by ends that are those of what
-- the banks keep
abbrev pub PartedStreamsLaw : Type 0
PartedStreamsLaw =
    (n m e : ℕ) (raw : RawShape) (seed : ℕ) (off : Bool) (part_of : ℕ → ℕ) (events : List (Event n)) (streams : ℕ → Streamed n m e)
    (array : ArrayState n m) → IsShape raw → IsServedInParts raw seed off part_of events streams array
    → (ends : ℕ → BankEnd)
    × RunsRightTo e raw seed off (rows_joined (bank_of_line raw seed) part_of streams events) array ends
    × ((bank : ℕ) → bank < raw.banks → IsEndOf (bank_at (streams (part_of bank)).module_ bank).bank.kept (ends bank))

-- a stream that was served to its end, over an array that tells no log, is one in parts, of which all banks have the same
abbrev pub OneStreamLaw : Type 0
OneStreamLaw =
    (n m e : ℕ) (raw : RawShape) (seed : ℕ) (off : Bool) (stream : Streamed n m e)
    → HasEnded raw seed off stream.asked stream.module_ stream.array stream.places stream.told → stream.array.log ≡ None
    → IsServedInParts raw seed off (λ bank. 0) (events_in stream.asked) (λ part. stream) stream.array
