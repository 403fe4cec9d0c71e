-- What a row of a trace says: an event, or the first fault of the row.
use Rattle.std.specs.{Prelude.{ℕ, ◌-◌, ◌==◌, nat_le, nat_lt, not, if◌then◌else◌, List, [], length, codes, Option, Some, None, unwrap_or, Result, Ok, Err}, Str.bytes_eq}
use Rattle.csv.specs.Records.{field_at}
use Rattle.trace_reader.specs.{Number.number_of, Payload.{bytes_of, masked_of}, declared.event.Event.Event, declared.event.EventOp.EventOp}
use Rattle.trace_reader.specs.{declared.event.EventOp.TheVariants.{Read, Write, Mask, Cut}, declared.fault.Kind.Kind}
use Rattle.trace_reader.specs.declared.fault.Kind.TheVariants as kind

-- the next step with a value, or a fault where there is none
abbrev pub or_fault : {T U : Type 0} → Option T → Kind → (T → Result U Kind) → Result U Kind
or_fault None fault next = Err fault
or_fault (Some x) fault next = next x

-- the greatest tick, 2 to the power 40
abbrev pub latest_tick : ℕ
latest_tick = 1099511627776

-- the field at an index of a record
abbrev pub text_at : List (List ℕ) → ℕ → List ℕ
text_at fields i = unwrap_or (field_at fields i) []

-- a tick has up to 13 digits
abbrev pub tick_of : List ℕ → Option ℕ
tick_of text = number_of 13 latest_tick text

-- how many digits the number of one of so many lines has at most
abbrev pub line_digits : ℕ → ℕ
line_digits lines = if nat_le lines 100000 then 5 else 8

-- one of so many lines
abbrev pub line_of : ℕ → List ℕ → Option ℕ
line_of lines text = number_of (line_digits lines) (lines - 1) text

-- an operation at a tick
abbrev pub event_at : {n : ℕ} → ℕ → Result (EventOp n) Kind → Result (Event n) Kind
event_at tick (Ok op) = Ok (record { tick = tick; op = op })
event_at tick (Err fault) = Err fault

-- the rows of a trace for so many lines of n bytes
module _ (n lines : ℕ) where
  -- a read has a line and no payload
  unfoldable pub read_of : List ℕ → List ℕ → Result (EventOp n) Kind
  read_of line payload =
      or_fault (line_of lines line) kind.Line (λ line. if length payload == 0 then Ok (Read line) else Err kind.Payload)

  -- a write has a line and all its bytes
  unfoldable pub write_of : List ℕ → List ℕ → Result (EventOp n) Kind
  write_of line payload =
      or_fault (line_of lines line) kind.Line (λ line. or_fault (bytes_of n payload) kind.Payload (λ bytes. Ok (Write line bytes)))

  -- a masked write has a line and some of its bytes
  unfoldable pub mask_of : List ℕ → List ℕ → Result (EventOp n) Kind
  mask_of line payload =
      or_fault (line_of lines line) kind.Line (λ line. or_fault (masked_of n payload) kind.Payload (λ m. Ok (Mask line m.bytes m.given)))

  -- a cut has neither
  unfoldable pub cut_of : List ℕ → List ℕ → Result (EventOp n) Kind
  cut_of line payload =
      if not (length line == 0) then Err kind.Line
      else if not (length payload == 0) then Err kind.Payload
      else Ok Cut

  -- the operation that a row names, with its line and payload
  unfoldable pub op_of : List ℕ → List ℕ → List ℕ → Result (EventOp n) Kind
  op_of op line payload =
      if bytes_eq op (codes "R") then read_of line payload
      else if bytes_eq op (codes "W") then write_of line payload
      else if bytes_eq op (codes "M") then mask_of line payload
      else if bytes_eq op (codes "C") then cut_of line payload
      else Err kind.Op

  -- what four fields say as a row, where the row before has the tick `before`
  abbrev pub row_of : ℕ → List ℕ → List ℕ → List ℕ → List ℕ → Result (Event n) Kind
  row_of before tick op line payload =
      or_fault (tick_of tick) kind.Tick (λ tick.
      if nat_lt tick before then Err kind.Order
      else event_at tick (op_of op line payload))

  -- what a record says as a row
  unfoldable pub event_of : ℕ → List (List ℕ) → Result (Event n) Kind
  event_of before fields =
      if not (length fields == 4) then Err kind.Fields
      else row_of before (text_at fields 0) (text_at fields 1) (text_at fields 2) (text_at fields 3)
