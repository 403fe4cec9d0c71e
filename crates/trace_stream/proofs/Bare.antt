-- A streamed trace without the rows that settle, and faults of one in which none does.
use Rattle.std.proofs.Common.{◌≡◌, ℕ, ◌+◌, ◌≤◌, ◌==◌, ◌&&◌, ◌||◌, not, List, [], ◌∷◌, length, true, false, Bool, Option, Some, None, refl, sym, ap, ◌∙◌, arith, nat_lt}
use Rattle.std.{specs.List.list_any, specs.Prelude.{codes, cond, filter, if◌then◌else◌, Result, Ok, Err}, specs.Str.bytes_eq, proofs.lemmas.Bool.Decides.nat_tests}
use Rattle.std.proofs.lemmas.Slice.Eq.{bytes_eq-Decides}
use Rattle.trace_reader.specs.{Rows.{event_at, event_of, op_of, text_at, tick_of}, Trace.{and_then_rows, events_of, fault_at, is_header, most_rows, rows_from, trace_of}}
use Rattle.trace_reader.specs.{declared.event.Event.Event, declared.event.EventOp.EventOp, declared.fault.Kind.Kind, declared.fault.TraceFault.TraceFault}
use Rattle.trace_reader.specs.declared.fault.Kind.TheVariants as kind
use Rattle.trace_reader.specs.declared.fault.ParseFault.TheVariants as whole
use Rattle.trace_stream.specs.Asked.{any_of, asked_any, asked_by, asked_event, asked_of, asked_peek, asked_settle, asked_settling, asked_until, events_in, is_any, is_look, is_peek, is_query, is_settle}
use Rattle.trace_stream.specs.{Asked.{is_settle_word, is_until, peek_of, rows_after, settle_of, settled_of, settling_of, tick_asked, until_of}, Laws.{BareLaw, FaultBackLaw, all_events, records_of}}
use Rattle.trace_stream.specs.{Stream.{and_then_asked, asked_before, is_past, stream_fault_at, stream_of, stream_records, stream_rows}, declared.asked.Asked.Asked}
use Rattle.trace_stream.specs.{declared.asked.Asked.TheVariants.{Happens, Settle, Query, Look, Peek, Until, UntilAny}, declared.asked.Peek.Peek as Peeked, declared.asked.Until.Until as Waited}
use Rattle.trace_stream.specs.{declared.asked.UntilAny.UntilAny as Awaited, declared.fault.StreamFault.StreamFault}
use Rattle.trace_stream.proofs.{Lawful.{any-lawful, peek-rises, settle-lawful, until-lawful}, Traces.{asked-ok, event-four, row_by}}
use Rattle.trace_stream.specs.declared.fault.StreamFault.TheVariants as fault

-- a row that happens does so behind any earlier tick
earlier-at : {n : ℕ} (before early : ℕ) (tick : Option ℕ) (op : Result (EventOp n) Kind) (event : Event n) → early ≤ before → row_by before tick op ≡ Ok event → row_by early tick op ≡ Ok event
earlier-at before early None op event less h = cc h
earlier-at {n = n} before early (Some tick) op event less h = by (nat_lt tick before) refl h
  where
    by : (b : Bool) → nat_lt tick before ≡ b → (if b then Err kind.Order else event_at tick op) ≡ Ok event → (if nat_lt tick early then Err kind.Order else event_at tick op) ≡ Ok event
    by true is q = cc q
    by false is q =
        let later : nat_lt tick early ≡ false = grind (arith, nat_tests) in
        rw later q

four-of : (n lines before : ℕ) (fields : List (List ℕ)) (event : Event n) → event_of n lines before fields ≡ Ok event → (length fields == 4) ≡ true
unfolding event_of
four-of n lines before fields event h = by (length fields == 4) refl h
  where
    by : (b : Bool) → (length fields == 4) ≡ b → (if not b then Err kind.Fields else row_by before (tick_of (text_at fields 0)) (op_of n lines (text_at fields 1) (text_at fields 2) (text_at fields 3))) ≡ Ok event → b ≡ true
    by true is q = refl
    by false is q = cc q

earlier : (n lines before early : ℕ) (fields : List (List ℕ)) (event : Event n) → early ≤ before → event_of n lines before fields ≡ Ok event → event_of n lines early fields ≡ Ok event
earlier n lines before early fields event less h =
    let four = four-of n lines before fields event h in
    event-four n lines early fields four ∙ earlier-at before early (tick_of (text_at fields 0)) _ event less (sym (event-four n lines before fields four) ∙ h)

-- what a row asks, by whether it settles
asked-settles : (n lines rows before : ℕ) (fields : List (List ℕ)) → is_settle fields ≡ true
    → asked_of n lines rows before fields ≡ settling_of lines rows before fields
unfolding asked_of
asked-settles n lines rows before fields is = rw is refl

asked-happens : (n lines rows before : ℕ) (fields : List (List ℕ)) → is_settle fields ≡ false → asked_of n lines rows before fields ≡ asked_event (event_of n lines before fields)
unfolding asked_of
asked-happens n lines rows before fields is = rw is refl

-- the rows without those that settle
abbrev bare : List (List (List ℕ)) → List (List (List ℕ))
bare rows = filter (λ fields. not (is_settle fields)) rows

behind : {n : ℕ} (first : Asked n) (r : Result (List (Asked n)) StreamFault) (asked : List (Asked n)) → asked_before first r ≡ Ok asked → (rest : List (Asked n)) × (r ≡ Ok rest) × (first ∷ rest ≡ asked)
behind first (Err e) asked h = cc h
behind first (Ok rest) asked h =
    let same : first ∷ rest ≡ asked = cc in
    (rest, refl, same)

bare-rows : (n lines rows before early : ℕ) (records : List (List (List ℕ))) (asked : List (Asked n)) → early ≤ before → stream_rows n lines rows before records ≡ Ok asked
    → stream_rows n lines rows early (bare records) ≡ Ok (all_events (events_in asked))
unfolding stream_rows
bare-rows n lines rows before early [] asked less h =
    let none : [] ≡ asked = cc in
    rw (← none) refl
bare-rows n lines rows before early (fields ∷ rest) asked less h =
    by (is_settle fields) refl (is_past rows fields) refl h
    (λ rows before early others. bare-rows n lines rows before early rest others)
  where
    Rest : Type 0
    Rest = (rows before early : ℕ) (others : List (Asked n)) → early ≤ before → stream_rows n lines rows before rest ≡ Ok others → stream_rows n lines rows early (bare rest) ≡ Ok (all_events (events_in others))

    settled : (first : Asked n) (tick : ℕ) → before ≤ tick → ((others : List (Asked n)) → events_in (first ∷ others) ≡ events_in others)
        → asked_before first (stream_rows n lines rows tick rest) ≡ Ok asked → Rest → stream_rows n lines rows early (bare rest) ≡ Ok (all_events (events_in asked))
    settled first tick later none q more =
        let b = behind first (stream_rows n lines rows tick rest) asked q in
        more rows tick early b.0 (omega (arith, less, later)) b.1
        ∙ ap (λ (events : List (Event n)). Ok (all_events events)) (sym (none b.0) ∙ ap events_in b.2)

    settles : (query look : Bool) (r : Result ℕ Kind) → settle_of before fields ≡ r → and_then_asked (rows + 1) (asked_settle {n = n} query look r) (λ asked. stream_rows n lines (rows_after rows asked) (tick_asked asked) rest) ≡ Ok asked → Rest
        → stream_rows n lines rows early (bare rest) ≡ Ok (all_events (events_in asked))
    settles query look (Err kind) e q more = cc q
    settles true look (Ok tick) e q more = settled (Query tick) tick (settle-lawful before tick fields e).0 (λ others. refl) q more
    settles false true (Ok tick) e q more = settled (Look tick) tick (settle-lawful before tick fields e).0 (λ others. refl) q more
    settles false false (Ok tick) e q more = settled (Settle tick) tick (settle-lawful before tick fields e).0 (λ others. refl) q more

    waits : (r : Result Waited Kind) → until_of rows before fields ≡ r → and_then_asked (rows + 1) (asked_until {n = n} r) (λ asked. stream_rows n lines (rows_after rows asked) (tick_asked asked) rest) ≡ Ok asked → Rest
        → stream_rows n lines rows early (bare rest) ≡ Ok (all_events (events_in asked))
    waits (Err kind) e q more = cc q
    waits (Ok until) e q more =
        let stands = (until-lawful rows before until fields e).2 in
        settled (Until until) until.reached (omega (arith, stands)) (λ others. refl) q more

    settling : (until : Bool) → and_then_asked (rows + 1) (asked_settling {n = n} until (is_query fields) (is_look fields) (until_of rows before fields) (settle_of before fields)) (λ asked. stream_rows n lines (rows_after rows asked) (tick_asked asked) rest) ≡ Ok asked → Rest
        → stream_rows n lines rows early (bare rest) ≡ Ok (all_events (events_in asked))
    settling true q more = waits (until_of rows before fields) refl q more
    settling false q more = settles (is_query fields) (is_look fields) (settle_of before fields) refl q more

    peeks : (r : Result Peeked Kind) → peek_of lines before fields ≡ r → and_then_asked (rows + 1) (asked_peek {n = n} r) (λ asked. stream_rows n lines (rows_after rows asked) (tick_asked asked) rest) ≡ Ok asked → Rest
        → stream_rows n lines rows early (bare rest) ≡ Ok (all_events (events_in asked))
    peeks (Err kind) e q more = cc q
    peeks (Ok peek) e q more = settled (Peek peek) peek.tick (peek-rises lines before peek fields e).0 (λ others. refl) q more

    awaits : (r : Result Awaited Kind) → any_of before fields ≡ r → and_then_asked (rows + 1) (asked_any {n = n} r) (λ asked. stream_rows n lines (rows_after rows asked) (tick_asked asked) rest) ≡ Ok asked → Rest
        → stream_rows n lines rows early (bare rest) ≡ Ok (all_events (events_in asked))
    awaits (Err kind) e q more = cc q
    awaits (Ok until) e q more =
        let stands = (any-lawful before until fields e).2 in
        settled (UntilAny until) until.reached (omega (arith, stands)) (λ others. refl) q more

    which : (peek any : Bool) → and_then_asked (rows + 1) (asked_by {n = n} peek any (peek_of lines before fields) (any_of before fields) (settled_of rows before fields)) (λ asked. stream_rows n lines (rows_after rows asked) (tick_asked asked) rest) ≡ Ok asked → Rest
        → stream_rows n lines rows early (bare rest) ≡ Ok (all_events (events_in asked))
    which true any q more = peeks (peek_of lines before fields) refl q more
    which false true q more = awaits (any_of before fields) refl q more
    which false false q more = settling (is_until fields) q more

    happens : (r : Result (Event n) Kind) → event_of n lines before fields ≡ r → and_then_asked (rows + 1) (asked_event r) (λ asked. stream_rows n lines (rows_after rows asked) (tick_asked asked) rest) ≡ Ok asked → Rest
        → and_then_asked (rows + 1) (asked_of n lines rows early fields) (λ asked. stream_rows n lines (rows_after rows asked) (tick_asked asked) (bare rest)) ≡ Ok (all_events (events_in asked))
    happens (Err kind) e q more = cc q
    happens (Ok event) e q more =
        let b = behind (Happens event) (stream_rows n lines (rows + 1) event.tick rest) asked q in
        rw (asked-ok n lines rows early fields event (earlier n lines before early fields event less e), more (rows + 1) event.tick event.tick b.0 (omega arith) b.1)
        (ap (λ (all : List (Asked n)). Ok (all_events (events_in all))) b.2)

    by : (settle : Bool) → is_settle fields ≡ settle → (past : Bool) → is_past rows fields ≡ past
        → (if past then Err fault.TooMany else and_then_asked (rows + 1) (asked_of n lines rows before fields) (λ asked. stream_rows n lines (rows_after rows asked) (tick_asked asked) rest)) ≡ Ok asked → Rest
        → stream_rows n lines rows early (cond (not settle) (fields ∷ bare rest) (bare rest)) ≡ Ok (all_events (events_in asked))
    by settle is true e q more = cc q
    by true is false e q more = which (is_peek fields) (is_any fields) (rw (asked-settles n lines rows before fields is) at q) more
    by false is false e q more = rw e (happens (event_of n lines before fields) refl (rw (asked-happens n lines rows before fields is) at q) more)

-- the header doesn't settle
header-op : (fields : List (List ℕ)) → is_header fields ≡ true → is_settle fields ≡ false
unfolding is_header
header-op fields is = by (length fields == 4) (bytes_eq (text_at fields 0) (codes "tick")) (bytes_eq (text_at fields 1) (codes "op")) refl is
  where
    by : (four tick op : Bool) → bytes_eq (text_at fields 1) (codes "op") ≡ op
        → (four && tick && op && bytes_eq (text_at fields 2) (codes "arg") && bytes_eq (text_at fields 3) (codes "data")) ≡ true
        → (four && is_settle_word (text_at fields 1)) ≡ false
    by false tick op e q = refl
    by true false op e q = cc q
    by true true false e q = cc q
    by true true true e q =
        let word : text_at fields 1 ≡ codes "op" = (bytes_eq-Decides (text_at fields 1) (codes "op")).0 e in
        rw word refl

pub bare-streams : BareLaw
unfolding stream_of stream_records
bare-streams n lines bytes less asked same h = ap (stream_records n lines) same ∙ go (records_of bytes) h
  where
    go : (all : List (List (List ℕ))) → stream_records n lines all ≡ Ok asked → stream_records n lines (bare all) ≡ Ok (all_events (events_in asked))
    go [] q = cc q
    go (first ∷ rows) q = by (is_header first) refl q
      where
        by : (b : Bool) → is_header first ≡ b → (if b then stream_rows n lines 0 0 rows else stream_fault_at 0 kind.Header) ≡ Ok asked → stream_records n lines (bare (first ∷ rows)) ≡ Ok (all_events (events_in asked))
        by true is q =
            let kept : is_settle first ≡ false = header-op first is in
            rw (kept, is) (bare-rows n lines 0 0 0 rows asked (omega arith) q)
        by false is q = cc q

-- a fault stands at one of the rows that are read
behind-fault : {n : ℕ} (first : Asked n) (r : Result (List (Asked n)) StreamFault) (e : StreamFault) → asked_before first r ≡ Err e → r ≡ Err e
behind-fault first (Err f) e h =
    let same : f ≡ e = cc in
    ap Err same
behind-fault first (Ok rest) e h = cc h

no-fewer : {n : ℕ} (rows : ℕ) (asked : Asked n) → rows ≤ rows_after rows asked
no-fewer rows (Happens event) = omega arith
no-fewer rows (Settle tick) = omega arith
no-fewer rows (Query tick) = omega arith
no-fewer rows (Look tick) = omega arith
no-fewer rows (Peek peek) = omega arith
no-fewer rows (Until until) = omega arith
no-fewer rows (UntilAny until) = omega arith

fault-row : (n lines rows before : ℕ) (records : List (List (List ℕ))) (found : TraceFault) → stream_rows n lines rows before records ≡ Err (fault.Trace found) → rows + 1 ≤ found.row
unfolding stream_rows
fault-row n lines rows before [] found h = cc h
fault-row n lines rows before (fields ∷ rest) found h = by (is_past rows fields) h (λ rows before. fault-row n lines rows before rest found)
  where
    Rest : Type 0
    Rest = (rows before : ℕ) → stream_rows n lines rows before rest ≡ Err (fault.Trace found) → rows + 1 ≤ found.row

    then-row : (r : Result (Asked n) Kind) → and_then_asked (rows + 1) r (λ asked. stream_rows n lines (rows_after rows asked) (tick_asked asked) rest) ≡ Err (fault.Trace found) → Rest → rows + 1 ≤ found.row
    then-row (Err bad) q more =
        let same : record { row = rows + 1; kind = bad } ≡ found = cc in
        let row : rows + 1 ≡ found.row = ap (λ (f : TraceFault). f.row) same in
        omega (arith, row)
    then-row (Ok asked) q more =
        let later = more (rows_after rows asked) (tick_asked asked) (behind-fault asked _ (fault.Trace found) q) in
        let least = no-fewer rows asked in
        omega (arith, later, least)

    by : (b : Bool) → (if b then Err fault.TooMany else and_then_asked (rows + 1) (asked_of n lines rows before fields) (λ asked. stream_rows n lines (rows_after rows asked) (tick_asked asked) rest)) ≡ Err (fault.Trace found) → Rest
        → rows + 1 ≤ found.row
    by true q more = cc q
    by false q more = then-row (asked_of n lines rows before fields) q more

or-first : (a b : Bool) → (a || b) ≡ false → a ≡ false
or-first true b h = cc h
or-first false b h = refl

or-second : (a b : Bool) → (a || b) ≡ false → b ≡ false
or-second true b h = cc h
or-second false b h = h

fault-back : (n lines rows before : ℕ) (records : List (List (List ℕ))) (found : TraceFault) → list_any is_settle records ≡ false → found.row ≤ most_rows
    → stream_rows n lines rows before records ≡ Err (fault.Trace found) → rows_from n lines (rows + 1) before records ≡ Err (whole.Trace found)
unfolding stream_rows rows_from
fault-back n lines rows before [] found none few h = cc h
fault-back n lines rows before (fields ∷ rest) found none few h =
    by (is_past rows fields) h (λ before. fault-back n lines (rows + 1) before rest found (or-second (is_settle fields) _ none) few)
  where
    Rest : Type 0
    Rest = (before : ℕ) → stream_rows n lines (rows + 1) before rest ≡ Err (fault.Trace found) → rows_from n lines (rows + 1 + 1) before rest ≡ Err (whole.Trace found)

    allowed : rows + 1 ≤ found.row → nat_lt most_rows (rows + 1) ≡ false
    allowed row = grind (arith, nat_tests)

    then-row : (r : Result (Event n) Kind) → event_of n lines before fields ≡ r → and_then_asked (rows + 1) (asked_event r) (λ asked. stream_rows n lines (rows_after rows asked) (tick_asked asked) rest) ≡ Err (fault.Trace found) → Rest
        → (if nat_lt most_rows (rows + 1) then Err whole.TooMany else and_then_rows (rows + 1) (event_of n lines before fields) (λ event. rows_from n lines (rows + 1 + 1) event.tick rest)) ≡ Err (whole.Trace found)
    then-row (Err bad) e q more =
        let same : record { row = rows + 1; kind = bad } ≡ found = cc in
        let row : rows + 1 ≡ found.row = ap (λ (f : TraceFault). f.row) same in
        rw (allowed (omega (arith, row)), e) (ap (λ (f : TraceFault). Err (whole.Trace f)) same)
    then-row (Ok event) e q more =
        let later = behind-fault (Happens event) (stream_rows n lines (rows + 1) event.tick rest) (fault.Trace found) q in
        let row = fault-row n lines (rows + 1) event.tick rest found later in
        rw (allowed (omega (arith, row)), e, more event.tick later) refl

    by : (b : Bool) → (if b then Err fault.TooMany else and_then_asked (rows + 1) (asked_of n lines rows before fields) (λ asked. stream_rows n lines (rows_after rows asked) (tick_asked asked) rest)) ≡ Err (fault.Trace found) → Rest
        → (if nat_lt most_rows (rows + 1) then Err whole.TooMany else and_then_rows (rows + 1) (event_of n lines before fields) (λ event. rows_from n lines (rows + 1 + 1) event.tick rest)) ≡ Err (whole.Trace found)
    by true q more = cc q
    by false q more = then-row (event_of n lines before fields) refl (rw (asked-happens n lines rows before fields (or-first (is_settle fields) _ none)) at q) more

pub faults-back : FaultBackLaw
unfolding trace_of events_of stream_of stream_records
faults-back n lines bytes found none few h = go (records_of bytes) none h
  where
    header : stream_fault_at {T = List (Asked n)} 0 kind.Header ≡ Err (fault.Trace found) → fault_at {T = List (Event n)} 0 kind.Header ≡ Err (whole.Trace found)
    header q =
        let same : record { row = 0; kind = kind.Header } ≡ found = cc in
        ap (λ (f : TraceFault). Err (whole.Trace f)) same

    go : (all : List (List (List ℕ))) → list_any is_settle all ≡ false → stream_records n lines all ≡ Err (fault.Trace found) → events_of n lines all ≡ Err (whole.Trace found)
    go [] none q = header q
    go (first ∷ rows) none q = by (is_header first) q
      where
        by : (b : Bool) → (if b then stream_rows n lines 0 0 rows else stream_fault_at 0 kind.Header) ≡ Err (fault.Trace found) → (if b then rows_from n lines 1 0 rows else fault_at 0 kind.Header) ≡ Err (whole.Trace found)
        by true q = fault-back n lines 0 0 rows found (or-second (is_settle first) _ none) few q
        by false q = header q
