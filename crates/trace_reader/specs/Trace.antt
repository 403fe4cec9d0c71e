-- What a text means as a trace: its events, or its first fault.
use Rattle.std.specs.{Prelude.{ℕ, ◌+◌, ◌==◌, ◌&&◌, nat_lt, Bool, if◌then◌else◌, List, [], ◌∷◌, ◌++◌, length, codes, Result, Ok, Err}, Str.bytes_eq}
use Rattle.csv.specs.Reading.{default_config, records, strip_bom}
use Rattle.trace_reader.specs.{Rows.{text_at, event_of}, declared.event.Event.Event, declared.fault.Kind.Kind, declared.fault.ParseFault.ParseFault}
use Rattle.trace_reader.specs.declared.fault.Kind.TheVariants as kind
use Rattle.trace_reader.specs.declared.fault.ParseFault.TheVariants as fault

-- a trace has at most so many rows behind its header
abbrev pub most_rows : ℕ
most_rows = 400000

-- whether a record is exactly the header's four words
unfoldable pub is_header : List (List ℕ) → Bool
is_header fields =
    (length fields == 4) && bytes_eq (text_at fields 0) (codes "tick") && bytes_eq (text_at fields 1) (codes "op")
    && bytes_eq (text_at fields 2) (codes "arg") && bytes_eq (text_at fields 3) (codes "data")

-- a row has a fault
abbrev pub fault_at : {T : Type 0} → ℕ → Kind → Result T ParseFault
fault_at row kind = Err (fault.Trace (record { row = row; kind = kind }))

-- an event in front of those of the rows behind it
abbrev pub event_before : {n : ℕ} → Event n → Result (List (Event n)) ParseFault → Result (List (Event n)) ParseFault
event_before event (Ok events) = Ok (event ∷ events)
event_before event (Err fault) = Err fault

-- events in front of those of the rows behind them
abbrev pub after_events : {n : ℕ} → List (Event n) → Result (List (Event n)) ParseFault → Result (List (Event n)) ParseFault
after_events events (Ok behind) = Ok (events ++ behind)
after_events events (Err fault) = Err fault

-- the row's event and what stands behind it, or the row's fault
abbrev pub and_then_rows : {n : ℕ} → ℕ → Result (Event n) Kind → (Event n → Result (List (Event n)) ParseFault) → Result (List (Event n)) ParseFault
and_then_rows row (Ok event) behind = event_before event (behind event)
and_then_rows row (Err kind) behind = fault_at row kind

-- the traces for so many lines of n bytes
module _ (n lines : ℕ) where
  -- the events of the rows from this number on, where the row before has the tick `before`
  unfoldable pub rows_from : ℕ → ℕ → List (List (List ℕ)) → Result (List (Event n)) ParseFault
  rows_from row before [] = Ok []
  rows_from row before (fields ∷ rest) =
      if nat_lt most_rows row then Err fault.TooMany
      else and_then_rows row (event_of n lines before fields) (λ event. rows_from (row + 1) event.tick rest)

  -- the events of the records: the first is the header, row 0
  unfoldable pub events_of : List (List (List ℕ)) → Result (List (Event n)) ParseFault
  events_of [] = fault_at 0 kind.Header
  events_of (first ∷ rows) = if is_header first then rows_from 1 0 rows else fault_at 0 kind.Header

  -- the events of a text, by the records that `csv` reads in it, or its first fault
  unfoldable pub trace_of : List ℕ → Result (List (Event n)) ParseFault
  trace_of bytes = events_of (records default_config (strip_bom bytes))
