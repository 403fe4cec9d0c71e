-- What a row of a streamed trace asks for, or its first fault.
use Rattle.std.specs.Prelude.{◌≡◌, ℕ, ◌+◌, ◌==◌, ◌&&◌, ◌||◌, ◌<◌, ◌≤◌, nat_lt, not, Bool, true, false, if◌then◌else◌, List, [], ◌∷◌, length, codes, Option, Some, None, Result, Ok, Err}
use Rattle.std.specs.Str.{bytes_eq}
use Rattle.trace_reader.specs.{Events.IsEventFor, Number.number_of, Rows.{event_of, latest_tick, line_of, or_fault, text_at, tick_of}, declared.event.Event.Event, declared.fault.Kind.Kind}
use Rattle.trace_reader.specs.declared.fault.Kind.TheVariants as kind
use Rattle.trace_stream.specs.{declared.asked.Asked.Asked, declared.asked.Asked.TheVariants.{Happens, Settle, Query, Look, Peek, Until, UntilAny}, declared.asked.Peek.Peek as Peeked}
use Rattle.trace_stream.specs.{declared.asked.Until.Until as Waited, declared.asked.UntilAny.UntilAny as Awaited}

-- whether a word is that of a row that settles: every bank comes to a tick. A query, which asks what waits in each bank then, settles too, and so
-- do a look, which asks how worn the module is then, a peek, which asks for the newest bytes of a line, and a settle until, which goes on until a row
-- has its outcome
abbrev pub is_settle_word : List ℕ → Bool
is_settle_word op = bytes_eq op (codes "S") || bytes_eq op (codes "Q") || bytes_eq op (codes "L") || bytes_eq op (codes "U") || bytes_eq op (codes "P")

-- whether a record's operation is to settle
abbrev pub is_settle : List (List ℕ) → Bool
is_settle fields = (length fields == 4) && is_settle_word (text_at fields 1)

-- whether a record that settles is a query
abbrev pub is_query : List (List ℕ) → Bool
is_query fields = bytes_eq (text_at fields 1) (codes "Q")

-- whether a record that settles is a look
abbrev pub is_look : List (List ℕ) → Bool
is_look fields = bytes_eq (text_at fields 1) (codes "L")

-- whether a record that settles is a peek
abbrev pub is_peek : List (List ℕ) → Bool
is_peek fields = bytes_eq (text_at fields 1) (codes "P")

-- whether a record that settles does so until a row has its outcome
abbrev pub is_until : List (List ℕ) → Bool
is_until fields = bytes_eq (text_at fields 1) (codes "U")

-- and whether it does so until any row has, as it names none
abbrev pub is_any : List (List ℕ) → Bool
is_any fields = is_until fields && (length (text_at fields 2) == 0)

-- whether an operation is a read, a write or a cut, which every trace has
abbrev pub is_event_word : List ℕ → Bool
is_event_word op = bytes_eq op (codes "R") || bytes_eq op (codes "W") || bytes_eq op (codes "C")

-- the tick of a row that settles: it has neither line nor payload. The tests come in the order of those of a cut
unfoldable pub settle_of : ℕ → List (List ℕ) → Result ℕ Kind
settle_of before fields =
    or_fault (tick_of (text_at fields 0)) kind.Tick (λ tick.
    if nat_lt tick before then Err kind.Order
    else if not (length (text_at fields 2) == 0) then Err kind.Line
    else if not (length (text_at fields 3) == 0) then Err kind.Payload
    else Ok tick)

-- none where it is 0
abbrev pub from_one : Option ℕ → Option ℕ
from_one None = None
from_one (Some number) = if number == 0 then None else Some number

-- the number of one of so many rows, of which the first is 1: it has up to 10 digits
abbrev pub row_of : ℕ → List ℕ → Option ℕ
row_of rows text = from_one (number_of 10 rows text)

-- a settle until, behind so many rows with a number, the last row's tick given: it names one of them, and has no payload. No tick was reached yet but
-- that of the row before
unfoldable pub until_of : ℕ → ℕ → List (List ℕ) → Result Waited Kind
until_of rows before fields =
    or_fault (tick_of (text_at fields 0)) kind.Tick (λ tick.
    if nat_lt tick before then Err kind.Order
    else or_fault (row_of rows (text_at fields 2)) kind.Line (λ row.
    if not (length (text_at fields 3) == 0) then Err kind.Payload
    else Ok (record { row = row; limit = tick; reached = before })))

-- a settle until any row has its outcome, the last row's tick given: it has no payload. No tick was reached yet but that of the row before
unfoldable pub any_of : ℕ → List (List ℕ) → Result Awaited Kind
any_of before fields =
    or_fault (tick_of (text_at fields 0)) kind.Tick (λ tick.
    if nat_lt tick before then Err kind.Order
    else if not (length (text_at fields 3) == 0) then Err kind.Payload
    else Ok (record { limit = tick; reached = before }))

-- a peek of one of so many lines: it has a line and no payload. The tests come in the order of those of a read
unfoldable pub peek_of : ℕ → ℕ → List (List ℕ) → Result Peeked Kind
peek_of lines before fields =
    or_fault (tick_of (text_at fields 0)) kind.Tick (λ tick.
    if nat_lt tick before then Err kind.Order
    else or_fault (line_of lines (text_at fields 2)) kind.Line (λ line.
    if length (text_at fields 3) == 0 then Ok (record { tick = tick; line = line }) else Err kind.Payload))

module _ {n : ℕ} where
  -- the tick that is reached by a row
  abbrev pub tick_asked : Asked n → ℕ
  tick_asked (Happens event) = event.tick
  tick_asked (Settle tick) = tick
  tick_asked (Query tick) = tick
  tick_asked (Look tick) = tick
  tick_asked (Peek peek) = peek.tick
  tick_asked (Until until) = until.reached
  tick_asked (UntilAny until) = until.reached

  -- the tick that a row names: a settle until goes no further
  abbrev pub tick_named : Asked n → ℕ
  tick_named (Happens event) = event.tick
  tick_named (Settle tick) = tick
  tick_named (Query tick) = tick
  tick_named (Look tick) = tick
  tick_named (Peek peek) = peek.tick
  tick_named (Until until) = until.limit
  tick_named (UntilAny until) = until.limit

  -- a row once this tick is reached by it, where it is a settle until
  abbrev pub reached_at : ℕ → Asked n → Asked n
  reached_at tick (Happens event) = Happens event
  reached_at tick (Settle at) = Settle at
  reached_at tick (Query at) = Query at
  reached_at tick (Look at) = Look at
  reached_at tick (Peek peek) = Peek peek
  reached_at tick (Until until) = Until (record { row = until.row; limit = until.limit; reached = tick })
  reached_at tick (UntilAny until) = UntilAny (record { limit = until.limit; reached = tick })

  -- how many rows have a number, with this one: a row that settles has none
  abbrev pub rows_after : ℕ → Asked n → ℕ
  rows_after rows (Happens event) = rows + 1
  rows_after rows (Settle tick) = rows
  rows_after rows (Query tick) = rows
  rows_after rows (Look tick) = rows
  rows_after rows (Peek peek) = rows
  rows_after rows (Until until) = rows
  rows_after rows (UntilAny until) = rows

  -- the events among what rows ask: what settles is none
  abbrev pub events_in : List (Asked n) → List (Event n)
  events_in [] = []
  events_in (Happens event ∷ rest) = event ∷ events_in rest
  events_in (Settle tick ∷ rest) = events_in rest
  events_in (Query tick ∷ rest) = events_in rest
  events_in (Look tick ∷ rest) = events_in rest
  events_in (Peek peek ∷ rest) = events_in rest
  events_in (Until until ∷ rest) = events_in rest
  events_in (UntilAny until ∷ rest) = events_in rest

  -- an event as what a row asks for
  abbrev pub asked_event : Result (Event n) Kind → Result (Asked n) Kind
  asked_event (Ok event) = Ok (Happens event)
  asked_event (Err fault) = Err fault

  -- to settle at a tick, by whether it is a query or a look
  abbrev pub settle_at : (query look : Bool) → ℕ → Asked n
  settle_at true look tick = Query tick
  settle_at false true tick = Look tick
  settle_at false false tick = Settle tick

  abbrev pub asked_settle : (query look : Bool) → Result ℕ Kind → Result (Asked n) Kind
  asked_settle query look (Ok tick) = Ok (settle_at query look tick)
  asked_settle query look (Err fault) = Err fault

  abbrev pub asked_until : Result Waited Kind → Result (Asked n) Kind
  asked_until (Ok until) = Ok (Until until)
  asked_until (Err fault) = Err fault

  abbrev pub asked_any : Result Awaited Kind → Result (Asked n) Kind
  asked_any (Ok until) = Ok (UntilAny until)
  asked_any (Err fault) = Err fault

  abbrev pub asked_peek : Result Peeked Kind → Result (Asked n) Kind
  asked_peek (Ok peek) = Ok (Peek peek)
  asked_peek (Err fault) = Err fault

  -- a row that settles, but for a peek and a settle until any row has its outcome, by which one it is
  abbrev pub asked_settling : (until query look : Bool) → Result Waited Kind → Result ℕ Kind → Result (Asked n) Kind
  asked_settling true query look waited tick = asked_until waited
  asked_settling false query look waited tick = asked_settle query look tick

  -- a row that settles, by whether it is one of these
  abbrev pub asked_by : (peek any : Bool) → Result Peeked Kind → Result Awaited Kind → (others : Result (Asked n) Kind) → Result (Asked n) Kind
  asked_by true any peeked awaited others = asked_peek peeked
  asked_by false true peeked awaited others = asked_any awaited
  asked_by false false peeked awaited others = others

  -- what a record says as a row that settles, but for these two
  abbrev pub settled_of : (rows before : ℕ) → List (List ℕ) → Result (Asked n) Kind
  settled_of rows before fields = asked_settling (is_until fields) (is_query fields) (is_look fields) (until_of rows before fields) (settle_of before fields)

  -- and with them
  abbrev pub settling_of : (lines rows before : ℕ) → List (List ℕ) → Result (Asked n) Kind
  settling_of lines rows before fields =
      asked_by (is_peek fields) (is_any fields) (peek_of lines before fields) (any_of before fields) (settled_of rows before fields)

  -- what is asked of so many lines, at a tick that is none of the earlier ones
  abbrev pub IsAskedFor : ℕ → ℕ → Asked n → Type 0
  IsAskedFor lines before (Happens event) = IsEventFor lines before event
  IsAskedFor lines before (Settle tick) = (before ≤ tick) × (tick ≤ latest_tick)
  IsAskedFor lines before (Query tick) = (before ≤ tick) × (tick ≤ latest_tick)
  IsAskedFor lines before (Look tick) = (before ≤ tick) × (tick ≤ latest_tick)
  IsAskedFor lines before (Peek peek) = (before ≤ peek.tick) × (peek.tick ≤ latest_tick) × (peek.line < lines)
  IsAskedFor lines before (Until until) = (before ≤ until.limit) × (until.limit ≤ latest_tick)
  IsAskedFor lines before (UntilAny until) = (before ≤ until.limit) × (until.limit ≤ latest_tick)

  -- a row that waits for the outcome of a row waits for one of so many
  abbrev pub NamesRow : ℕ → Asked n → Type 0
  NamesRow rows (Happens event) = Unit {0}
  NamesRow rows (Settle tick) = Unit {0}
  NamesRow rows (Query tick) = Unit {0}
  NamesRow rows (Look tick) = Unit {0}
  NamesRow rows (Peek peek) = Unit {0}
  NamesRow rows (Until until) = (1 ≤ until.row) × (until.row ≤ rows)
  NamesRow rows (UntilAny until) = Unit {0}

  -- as it is read, no more was reached by it than the tick of the row before
  abbrev pub IsUnreached : ℕ → Asked n → Type 0
  IsUnreached before (Happens event) = Unit {0}
  IsUnreached before (Settle tick) = Unit {0}
  IsUnreached before (Query tick) = Unit {0}
  IsUnreached before (Look tick) = Unit {0}
  IsUnreached before (Peek peek) = Unit {0}
  IsUnreached before (Until until) = until.reached ≡ before
  IsUnreached before (UntilAny until) = until.reached ≡ before

-- what a record says as a row, where so many rows before it have a number, and the row before has the tick `before`: an event, by the definition of
-- a whole trace, or that every bank comes to a tick, which may be a query, a look or a peek, or a settle until
unfoldable pub asked_of : (n lines rows before : ℕ) → List (List ℕ) → Result (Asked n) Kind
asked_of n lines rows before fields =
    if is_settle fields then settling_of lines rows before fields else asked_event (event_of n lines before fields)
