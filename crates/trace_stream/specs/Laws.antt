-- What a streamed trace has to do with a whole one.
use Rattle.std.specs.{List.list_any, Prelude.{◌≡◌, ◌≢◌, ◌⊎◌, ℕ, suc, ◌+◌, ◌≤◌, not, false, List, [], length, map, filter, take, Ok, Err}}
use Rattle.csv.specs.Reading.{default_config, records, strip_bom}
use Rattle.trace_reader.specs.{Trace.{most_rows, trace_of}, declared.event.Event.Event, declared.fault.TraceFault.TraceFault}
use Rattle.trace_reader.specs.declared.fault.Kind.TheVariants as kind
use Rattle.trace_reader.specs.declared.fault.ParseFault.TheVariants as whole
use Rattle.trace_stream.specs.{Asked.{events_in, is_settle}, Stream.{front_of, most_streamed, stream_of, stream_records}, declared.asked.Asked.Asked}
use Rattle.trace_stream.specs.{declared.asked.Asked.TheVariants.Happens, declared.fault.StreamFault.StreamFault}
use Rattle.trace_stream.specs.declared.fault.StreamFault.TheVariants as fault

-- the records of a text, as `csv` reads them
abbrev pub records_of : List ℕ → List (List (List ℕ))
records_of bytes = records default_config (strip_bom bytes)

-- first records of a text ask this by themselves, without a fault, and with the next one they have this fault
abbrev pub BreaksBehind : (n lines : ℕ) → List ℕ → List (Asked n) → StreamFault → Type 0
BreaksBehind n lines bytes asked e =
    (count : ℕ) × (stream_records n lines (take count (records_of bytes)) ≡ Ok asked)
    × (stream_records n lines (take (suc count) (records_of bytes)) ≡ Err e)

-- a fault stands behind so many rows with a number: it names the next one, or there may be no next one; no other fault is one of a text
abbrev pub StandsBehind : ℕ → StreamFault → Type 0
StandsBehind count (fault.Trace found) = found.row ≡ count + 1
StandsBehind count fault.TooMany = count ≡ most_streamed
StandsBehind count fault.Read = ⊥
StandsBehind count fault.Endless = ⊥
StandsBehind count fault.NoMemory = ⊥

-- the fault of a text that has no header
abbrev pub headless : StreamFault
headless = fault.Trace (record { row = 0; kind = kind.Header })

-- what events ask
abbrev pub all_events : {n : ℕ} → List (Event n) → List (Asked n)
all_events events = map (λ event. Happens event) events

-- every trace is a streamed trace of the same events
abbrev pub TraceLaw : Type 0
TraceLaw = (n lines : ℕ) (bytes : List ℕ) (events : List (Event n)) → trace_of n lines bytes ≡ Ok events
    → stream_of n lines bytes ≡ Ok (all_events events)

-- a streamed trace of events alone is a trace of these events, where it has no more rows than a trace may have
abbrev pub StreamLaw : Type 0
StreamLaw = (n lines : ℕ) (bytes : List ℕ) (events : List (Event n)) → stream_of n lines bytes ≡ Ok (all_events events)
    → length events ≤ most_rows → trace_of n lines bytes ≡ Ok events

-- the first fault of a trace is that of the streamed one, but where it is an operation that a trace doesn't have
abbrev pub FaultLaw : Type 0
FaultLaw = (n lines : ℕ) (bytes : List ℕ) (found : TraceFault) → found.kind ≢ kind.Op → trace_of n lines bytes ≡ Err (whole.Trace found)
    → stream_of n lines bytes ≡ Err (fault.Trace found)

-- and back: where no row settles, the first fault of a streamed trace at a row that a trace may have is that of the trace
abbrev pub FaultBackLaw : Type 0
FaultBackLaw = (n lines : ℕ) (bytes : List ℕ) (found : TraceFault) → list_any is_settle (records_of bytes) ≡ false → found.row ≤ most_rows
    → stream_of n lines bytes ≡ Err (fault.Trace found) → trace_of n lines bytes ≡ Err (whole.Trace found)

-- rows that settle change no event: a text without them asks for the same events
abbrev pub BareLaw : Type 0
BareLaw = (n lines : ℕ) (bytes bare : List ℕ) (asked : List (Asked n)) → records_of bare ≡ filter (λ fields. not (is_settle fields)) (records_of bytes)
    → stream_of n lines bytes ≡ Ok asked → stream_of n lines bare ≡ Ok (all_events (events_in asked))

-- where no row has a fault, all rows stand in front
abbrev pub FrontLaw : Type 0
FrontLaw = (n lines : ℕ) (bytes : List ℕ) (all : List (Asked n)) → stream_of n lines bytes ≡ Ok all → front_of n lines bytes ≡ all

-- what stands in front of a fault is asked by the records up to the one that has it, and so many of these rows have a number
abbrev pub FrontFaultLaw : Type 0
FrontFaultLaw = (n lines : ℕ) (bytes : List ℕ) (e : StreamFault) → stream_of n lines bytes ≡ Err e
    → ((e ≡ headless) × (front_of n lines bytes ≡ []))
    ⊎ (BreaksBehind n lines bytes (front_of n lines bytes) e × StandsBehind (length (events_in (front_of n lines bytes))) e)
