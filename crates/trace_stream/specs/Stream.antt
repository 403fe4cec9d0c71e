-- What a text means as a streamed trace: what its rows ask for, or its first fault.
use Rattle.std.specs.Prelude.{◌≡◌, ◌≢◌, ◌<◌, ℕ, ◌+◌, ◌==◌, ◌&&◌, not, Bool, true, if◌then◌else◌, List, [], ◌∷◌, ◌++◌, length, Option, Some, None, Result, Ok, Err}
use Rattle.csv.specs.{Reading.{default_config, records_from, strip_bom}, declared.parser.State.State}
use Rattle.csv.specs.declared.parser.State.TheVariants as st
use Rattle.trace_reader.specs.{Plain.{IsPlainRow, piece}, Trace.is_header, declared.fault.Kind.Kind, declared.plain.PlainRow.PlainRow}
use Rattle.trace_reader.specs.declared.fault.Kind.TheVariants as kind
use Rattle.trace_stream.specs.{Arrived.{Arrived, Comes}, Asked.{asked_of, is_event_word, is_settle, rows_after, tick_asked}, declared.asked.Asked.Asked}
use Rattle.trace_stream.specs.declared.fault.StreamFault.{StreamFault}
use Rattle.trace_stream.specs.declared.fault.StreamFault.TheVariants as fault

-- a streamed trace has at most so many rows with a number, 2 to the power 32 less two
abbrev pub most_streamed : ℕ
most_streamed = 4294967294

-- whether a record is one row too many, where so many rows before it have a number
abbrev pub is_past : ℕ → List (List ℕ) → Bool
is_past rows fields = (rows == most_streamed) && not (is_settle fields)

-- a row has a fault
abbrev pub stream_fault_at : {T : Type 0} → ℕ → Kind → Result T StreamFault
stream_fault_at row kind = Err (fault.Trace (record { row = row; kind = kind }))

module _ {n : ℕ} where
  -- what a row asks in front of what the rows behind it ask
  abbrev pub asked_before : Asked n → Result (List (Asked n)) StreamFault → Result (List (Asked n)) StreamFault
  asked_before asked (Ok behind) = Ok (asked ∷ behind)
  asked_before asked (Err fault) = Err fault

  -- what the row asks and what stands behind it, or the row's fault
  abbrev pub and_then_asked : ℕ → Result (Asked n) Kind → (Asked n → Result (List (Asked n)) StreamFault) → Result (List (Asked n)) StreamFault
  and_then_asked row (Ok asked) behind = asked_before asked (behind asked)
  and_then_asked row (Err kind) behind = stream_fault_at row kind

  -- the row that asks and what stands behind it, nothing from a fault on
  abbrev pub up_to_fault : Result (Asked n) Kind → (Asked n → List (Asked n)) → List (Asked n)
  up_to_fault (Ok asked) behind = asked ∷ behind asked
  up_to_fault (Err kind) behind = []

-- every record of a text, from a state of `csv`'s machine
abbrev pub records_left : State → List ℕ → List (List (List ℕ))
records_left s text = records_from default_config (length text + 1) s text

-- the streamed traces for so many lines of n bytes
module _ (n lines : ℕ) where
  -- what the rows ask where so many rows before them have a number, and the row before has the tick `before`. A row that settles has
  -- none: its fault is named by the number of the row that would come next
  unfoldable pub stream_rows : ℕ → ℕ → List (List (List ℕ)) → Result (List (Asked n)) StreamFault
  stream_rows rows before [] = Ok []
  stream_rows rows before (fields ∷ rest) =
      if is_past rows fields then Err fault.TooMany
      else and_then_asked (rows + 1) (asked_of n lines rows before fields) (λ asked. stream_rows (rows_after rows asked) (tick_asked asked) rest)

  -- what the records ask: the first is the header, row 0
  unfoldable pub stream_records : List (List (List ℕ)) → Result (List (Asked n)) StreamFault
  stream_records [] = stream_fault_at 0 kind.Header
  stream_records (first ∷ rows) = if is_header first then stream_rows 0 0 rows else stream_fault_at 0 kind.Header

  -- what a text asks, by the records that `csv` reads in it, or its first fault
  unfoldable pub stream_of : List ℕ → Result (List (Asked n)) StreamFault
  stream_of bytes = stream_records (records_left st.StartRecord (strip_bom bytes))

  -- what the rows ask in front of the first fault: all rows where there is none
  unfoldable pub front_rows : ℕ → ℕ → List (List (List ℕ)) → List (Asked n)
  front_rows rows before [] = []
  front_rows rows before (fields ∷ rest) =
      if is_past rows fields then []
      else up_to_fault (asked_of n lines rows before fields) (λ asked. front_rows (rows_after rows asked) (tick_asked asked) rest)

  unfoldable pub front_records : List (List (List ℕ)) → List (Asked n)
  front_records [] = []
  front_records (first ∷ rows) = if is_header first then front_rows 0 0 rows else []

  -- what a text asks in front of its first fault
  unfoldable pub front_of : List ℕ → List (Asked n)
  front_of bytes = front_records (records_left st.StartRecord (strip_bom bytes))

-- where a reader of a streamed trace stands: the bytes that arrived and aren't read yet, the state of `csv`'s machine before
-- them, how many rows with a number were read, the tick of the last row, and the number of lines
pub record Standing : Type 0 where
  pub arrived : Arrived
  pub state : State
  pub rows : ℕ
  pub tick : ℕ
  pub lines : ℕ

-- the next row has come whole, of plain bytes, and is an event that has a number
pub record IsPlainNext (at : Standing) (row : PlainRow) : Type 0 where
  pub starts : at.state ≡ st.StartRecord
  pub plain : IsPlainRow at.arrived.bytes 0 row
  pub few : at.rows < most_streamed
  pub event : is_event_word (piece at.arrived.bytes (row.tick + 1) row.op) ≡ true

-- what the rows ask that a reader has still to read, if these bytes come behind those that arrived
unfoldable pub asked_from : (n : ℕ) → Standing → List ℕ → Result (List (Asked n)) StreamFault
asked_from n at more = stream_rows n at.lines at.rows at.tick (records_left at.state (at.arrived.bytes ++ more))

-- and which of them stand in front of the first fault
unfoldable pub front_from : (n : ℕ) → Standing → List ℕ → List (Asked n)
front_from n at more = front_rows n at.lines at.rows at.tick (records_left at.state (at.arrived.bytes ++ more))

-- the next row asks this, whatever may still come behind; or there is none, and the text is at its end
abbrev pub AsksNext : {n : ℕ} → Standing → List ℕ → Option (Asked n) → Standing → Type 0
AsksNext {n} old bytes (Some asked) new =
    (more : List ℕ) → Comes new.arrived.ended more
    → (asked_from n old (bytes ++ more) ≡ asked_before asked (asked_from n new more)) × (front_from n old (bytes ++ more) ≡ asked ∷ front_from n new more)
AsksNext {n} old bytes None new = (asked_from n old bytes ≡ Ok []) × (new.arrived.ended ≡ true)

-- a fault of the text, and not of the source, for want of an end or of memory
abbrev pub IsOfText : StreamFault → Type 0
IsOfText e = (e ≢ fault.Read) × (e ≢ fault.Endless) × (e ≢ fault.NoMemory)

-- this is the text's fault, whatever may still come behind
abbrev pub HasFault : {n : ℕ} → (List ℕ → Result (List (Asked n)) StreamFault) → List ℕ → StreamFault → Bool → Type 0
HasFault meaning bytes e ended = (more : List ℕ) → Comes ended more → meaning (bytes ++ more) ≡ Err e

-- exactly these rows stand in front of the text's first fault, whatever may still come behind
abbrev pub HasFront : {n : ℕ} → (List ℕ → List (Asked n)) → List ℕ → List (Asked n) → Bool → Type 0
HasFront front bytes asked ended = (more : List ℕ) → Comes ended more → front (bytes ++ more) ≡ asked

-- the bytes that were taken are the beginning of a text whose rows are still to read
abbrev pub Opens : ℕ → List ℕ → Standing → Type 0
Opens lines bytes new =
    (n : ℕ) (more : List ℕ) → Comes new.arrived.ended more
    → (stream_of n lines (bytes ++ more) ≡ asked_from n new more) × (front_of n lines (bytes ++ more) ≡ front_from n new more)
