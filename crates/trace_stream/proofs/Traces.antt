-- What a streamed trace has to do with a whole one.
use Rattle.std.proofs.Common.{◌≡◌, ◌≢◌, ℕ, ◌+◌, ◌≤◌, ◌==◌, ◌&&◌, ◌||◌, List, [], ◌∷◌, length, true, false, Bool, Option, Some, None, refl, sym, ap, ◌∙◌, arith, nat_lt}
use Rattle.std.{specs.Prelude.{codes, if◌then◌else◌, Result, Ok, Err}, specs.Str.bytes_eq, proofs.lemmas.Bool.Decides.nat_tests, proofs.lemmas.Slice.Eq.bytes_eq-Decides}
use Rattle.csv.specs.Reading.{default_config, records, strip_bom}
use Rattle.trace_reader.specs.Rows.{event_at, event_of, op_of, or_fault, text_at, tick_of}
use Rattle.trace_reader.specs.{Trace.{and_then_rows, event_before, events_of, fault_at, is_header, most_rows, rows_from, trace_of}, declared.event.Event.Event}
use Rattle.trace_reader.specs.{declared.event.EventOp.EventOp, declared.fault.Kind.Kind, declared.fault.ParseFault.ParseFault, declared.fault.TraceFault.TraceFault}
use Rattle.trace_reader.specs.declared.fault.Kind.TheVariants as kind
use Rattle.trace_reader.specs.declared.fault.ParseFault.TheVariants as whole
use Rattle.trace_stream.specs.Asked.{any_of, asked_any, asked_by, asked_event, asked_of, asked_peek, asked_settle, asked_settling, asked_until, is_any, is_look, is_peek, is_query, is_settle, is_settle_word, is_until}
use Rattle.trace_stream.specs.{Asked.{peek_of, rows_after, settle_of, settled_of, settling_of, tick_asked, until_of}, Laws.{FaultLaw, StreamLaw, TraceLaw, all_events}}
use Rattle.trace_stream.specs.{Stream.{and_then_asked, asked_before, is_past, most_streamed, stream_fault_at, stream_of, stream_records, stream_rows}, declared.asked.Asked.Asked}
use Rattle.trace_stream.specs.{declared.asked.Asked.TheVariants.Happens, declared.asked.Peek.Peek as Peeked, declared.asked.Until.Until as Waited, declared.asked.UntilAny.UntilAny as Awaited}
use Rattle.trace_stream.specs.declared.fault.StreamFault.{StreamFault}
use Rattle.trace_stream.specs.declared.fault.StreamFault.TheVariants as fault

-- an operation to settle is none of a trace
settle-op : (n lines : ℕ) (op line payload : List ℕ) → is_settle_word op ≡ true → op_of n lines op line payload ≡ Err kind.Op
unfolding op_of
settle-op n lines op line payload is = by (bytes_eq op (codes "S")) (bytes_eq op (codes "Q")) (bytes_eq op (codes "L")) (bytes_eq op (codes "U")) refl refl refl refl is
  where
    by : (b c d u : Bool) → bytes_eq op (codes "S") ≡ b → bytes_eq op (codes "Q") ≡ c → bytes_eq op (codes "L") ≡ d → bytes_eq op (codes "U") ≡ u
        → (b || c || d || u || bytes_eq op (codes "P")) ≡ true → op_of n lines op line payload ≡ Err kind.Op
    by true c d u e f g i q =
        let word : op ≡ codes "S" = (bytes_eq-Decides op (codes "S")).0 e in
        rw word refl
    by false true d u e f g i q =
        let word : op ≡ codes "Q" = (bytes_eq-Decides op (codes "Q")).0 f in
        rw word refl
    by false false true u e f g i q =
        let word : op ≡ codes "L" = (bytes_eq-Decides op (codes "L")).0 g in
        rw word refl
    by false false false true e f g i q =
        let word : op ≡ codes "U" = (bytes_eq-Decides op (codes "U")).0 i in
        rw word refl
    by false false false false e f g i q =
        let word : op ≡ codes "P" = (bytes_eq-Decides op (codes "P")).0 q in
        rw word refl

and-first : (p q : Bool) → (p && q) ≡ true → p ≡ true
and-first true q h = refl
and-first false q h = cc h

and-second : (p q : Bool) → (p && q) ≡ true → q ≡ true
and-second true q h = h
and-second false q h = cc h

-- a row, by the answer to the test of its tick and by its operation
abbrev pub row_by : {n : ℕ} → ℕ → Option ℕ → Result (EventOp n) Kind → Result (Event n) Kind
row_by before tick op = or_fault tick kind.Tick (λ tick. if nat_lt tick before then Err kind.Order else event_at tick op)

pub event-four : (n lines before : ℕ) (fields : List (List ℕ)) → (length fields == 4) ≡ true
    → event_of n lines before fields ≡ row_by before (tick_of (text_at fields 0)) (op_of n lines (text_at fields 1) (text_at fields 2) (text_at fields 3))
unfolding event_of
event-four n lines before fields four = rw four refl

settle-event : (n lines before : ℕ) (fields : List (List ℕ)) → is_settle fields ≡ true → event_of n lines before fields ≡ row_by before (tick_of (text_at fields 0)) (Err kind.Op)
settle-event n lines before fields is =
    event-four n lines before fields (and-first (length fields == 4) _ is)
    ∙ ap (row_by before (tick_of (text_at fields 0))) (settle-op n lines (text_at fields 1) (text_at fields 2) (text_at fields 3) (and-second (length fields == 4) _ is))

-- so such a row is no event
no-event-at : {n : ℕ} (tick : ℕ) (event : Event n) (early : Bool) → (if early then Err kind.Order else event_at {n = n} tick (Err kind.Op)) ≡ Ok event → ⊥
no-event-at tick event true h = cc h
no-event-at tick event false h = cc h

no-event : {n : ℕ} (before : ℕ) (tick : Option ℕ) (event : Event n) → row_by {n = n} before tick (Err kind.Op) ≡ Ok event → ⊥
no-event before None event h = cc h
no-event before (Some tick) event h = no-event-at tick event (nat_lt tick before) h

-- and its fault, where it isn't the operation, is that of a row that settles
fault-at-early : {n : ℕ} {T : Type 0} (tick : ℕ) (bad : Kind) (early : Bool) (rest : Result T Kind) → bad ≢ kind.Op → (if early then Err kind.Order else event_at {n = n} tick (Err kind.Op)) ≡ Err bad
    → (if early then Err kind.Order else rest) ≡ Err bad
fault-at-early tick bad true rest other h =
    let same : kind.Order ≡ bad = cc in
    ap Err same
fault-at-early tick bad false rest other h =
    let same : kind.Op ≡ bad = cc in
    absurd (other (sym same))

settle-fault : (n before : ℕ) (fields : List (List ℕ)) (bad : Kind) (tick : Option ℕ) → tick_of (text_at fields 0) ≡ tick → bad ≢ kind.Op → row_by {n = n} before tick (Err kind.Op) ≡ Err bad → settle_of before fields ≡ Err bad
unfolding settle_of
settle-fault n before fields bad None e other h =
    let same : kind.Tick ≡ bad = cc in
    rw e (ap Err same)
settle-fault n before fields bad (Some tick) e other h = rw e (fault-at-early {n = n} tick bad (nat_lt tick before) _ other h)

until-fault : (n rows before : ℕ) (fields : List (List ℕ)) (bad : Kind) (tick : Option ℕ) → tick_of (text_at fields 0) ≡ tick → bad ≢ kind.Op → row_by {n = n} before tick (Err kind.Op) ≡ Err bad → until_of rows before fields ≡ Err bad
unfolding until_of
until-fault n rows before fields bad None e other h =
    let same : kind.Tick ≡ bad = cc in
    rw e (ap Err same)
until-fault n rows before fields bad (Some tick) e other h = rw e (fault-at-early {n = n} tick bad (nat_lt tick before) _ other h)

any-fault : (n before : ℕ) (fields : List (List ℕ)) (bad : Kind) (tick : Option ℕ) → tick_of (text_at fields 0) ≡ tick → bad ≢ kind.Op → row_by {n = n} before tick (Err kind.Op) ≡ Err bad → any_of before fields ≡ Err bad
unfolding any_of
any-fault n before fields bad None e other h =
    let same : kind.Tick ≡ bad = cc in
    rw e (ap Err same)
any-fault n before fields bad (Some tick) e other h = rw e (fault-at-early {n = n} tick bad (nat_lt tick before) _ other h)

peek-fault : (n lines before : ℕ) (fields : List (List ℕ)) (bad : Kind) (tick : Option ℕ) → tick_of (text_at fields 0) ≡ tick → bad ≢ kind.Op → row_by {n = n} before tick (Err kind.Op) ≡ Err bad → peek_of lines before fields ≡ Err bad
unfolding peek_of
peek-fault n lines before fields bad None e other h =
    let same : kind.Tick ≡ bad = cc in
    rw e (ap Err same)
peek-fault n lines before fields bad (Some tick) e other h = rw e (fault-at-early {n = n} tick bad (nat_lt tick before) _ other h)

by-fault : (n : ℕ) (peek any : Bool) (peeked : Result Peeked Kind) (awaited : Result Awaited Kind) (others : Result (Asked n) Kind) (bad : Kind) → peeked ≡ Err bad → awaited ≡ Err bad → others ≡ Err bad
    → asked_by peek any peeked awaited others ≡ Err bad
by-fault n true any peeked awaited others bad e f g = ap (asked_peek {n = n}) e
by-fault n false true peeked awaited others bad e f g = ap (asked_any {n = n}) f
by-fault n false false peeked awaited others bad e f g = g

settling-fault : (n : ℕ) (until query look : Bool) (waited : Result Waited Kind) (tick : Result ℕ Kind) (bad : Kind) → waited ≡ Err bad → tick ≡ Err bad → asked_settling {n = n} until query look waited tick ≡ Err bad
settling-fault n true query look waited tick bad e f = ap (asked_until {n = n}) e
settling-fault n false query look waited tick bad e f = ap (asked_settle {n = n} query look) f

-- a row of a trace is asked as its event
pub asked-ok : (n lines rows before : ℕ) (fields : List (List ℕ)) (event : Event n) → event_of n lines before fields ≡ Ok event → asked_of n lines rows before fields ≡ Ok (Happens event)
unfolding asked_of
asked-ok n lines rows before fields event e = by (is_settle fields) refl
  where
    by : (b : Bool) → is_settle fields ≡ b → (if b then settling_of lines rows before fields else asked_event (event_of n lines before fields)) ≡ Ok (Happens event)
    by true is = absurd (no-event before (tick_of (text_at fields 0)) event (sym (settle-event n lines before fields is) ∙ e))
    by false is = rw e refl

asked-err : (n lines rows before : ℕ) (fields : List (List ℕ)) (bad : Kind) → bad ≢ kind.Op → event_of n lines before fields ≡ Err bad → asked_of n lines rows before fields ≡ Err bad
unfolding asked_of
asked-err n lines rows before fields bad other e = by (is_settle fields) refl
  where
    by : (b : Bool) → is_settle fields ≡ b → (if b then settling_of {n = n} lines rows before fields else asked_event (event_of n lines before fields)) ≡ Err bad
    by true is =
        let none = sym (settle-event n lines before fields is) ∙ e in
        by-fault n (is_peek fields) (is_any fields) (peek_of lines before fields) (any_of before fields) (settled_of rows before fields) bad
        (peek-fault n lines before fields bad (tick_of (text_at fields 0)) refl other none) (any-fault n before fields bad (tick_of (text_at fields 0)) refl other none)
        (settling-fault n (is_until fields) (is_query fields) (is_look fields) (until_of rows before fields) (settle_of before fields) bad
        (until-fault n rows before fields bad (tick_of (text_at fields 0)) refl other none) (settle-fault n before fields bad (tick_of (text_at fields 0)) refl other none))
    by false is = rw e refl

-- and what is asked as an event is an event
pub event-asked : (n lines rows before : ℕ) (fields : List (List ℕ)) (event : Event n) → asked_of n lines rows before fields ≡ Ok (Happens event) → event_of n lines before fields ≡ Ok event
unfolding asked_of
event-asked n lines rows before fields event h = by (is_settle fields) h
  where
    settles : (query look : Bool) (r : Result ℕ Kind) → asked_settle {n = n} query look r ≡ Ok (Happens event) → event_of n lines before fields ≡ Ok event
    settles true look (Ok tick) q = cc q
    settles false true (Ok tick) q = cc q
    settles false false (Ok tick) q = cc q
    settles query look (Err kind) q = cc q

    waits : (r : Result Waited Kind) → asked_until {n = n} r ≡ Ok (Happens event) → event_of n lines before fields ≡ Ok event
    waits (Ok until) q = cc q
    waits (Err kind) q = cc q

    settling : (until : Bool) → asked_settling {n = n} until (is_query fields) (is_look fields) (until_of rows before fields) (settle_of before fields) ≡ Ok (Happens event) → event_of n lines before fields ≡ Ok event
    settling true q = waits (until_of rows before fields) q
    settling false q = settles (is_query fields) (is_look fields) (settle_of before fields) q

    peeks : (r : Result Peeked Kind) → asked_peek {n = n} r ≡ Ok (Happens event) → event_of n lines before fields ≡ Ok event
    peeks (Ok peek) q = cc q
    peeks (Err kind) q = cc q

    awaits : (r : Result Awaited Kind) → asked_any {n = n} r ≡ Ok (Happens event) → event_of n lines before fields ≡ Ok event
    awaits (Ok until) q = cc q
    awaits (Err kind) q = cc q

    which : (peek any : Bool) → asked_by {n = n} peek any (peek_of lines before fields) (any_of before fields) (settled_of rows before fields) ≡ Ok (Happens event) → event_of n lines before fields ≡ Ok event
    which true any q = peeks (peek_of lines before fields) q
    which false true q = awaits (any_of before fields) q
    which false false q = settling (is_until fields) q

    happens : (r : Result (Event n) Kind) → asked_event r ≡ Ok (Happens event) → r ≡ Ok event
    happens (Ok found) q =
        let same : found ≡ event = cc in
        ap Ok same
    happens (Err kind) q = cc q

    by : (b : Bool) → (if b then settling_of lines rows before fields else asked_event (event_of n lines before fields)) ≡ Ok (Happens event) → event_of n lines before fields ≡ Ok event
    by true q = which (is_peek fields) (is_any fields) q
    by false q = happens (event_of n lines before fields) q

-- one row in front of others
behind-ok : {n : ℕ} (event : Event n) (r : Result (List (Event n)) ParseFault) (events : List (Event n)) → event_before event r ≡ Ok events
    → (rest : List (Event n)) × (r ≡ Ok rest) × (event ∷ rest ≡ events)
behind-ok event (Err e) events h = cc h
behind-ok event (Ok rest) events h =
    let same : event ∷ rest ≡ events = cc in
    (rest, refl, same)

behind-err : {n : ℕ} (event : Event n) (r : Result (List (Event n)) ParseFault) (e : ParseFault) → event_before event r ≡ Err e → r ≡ Err e
behind-err event (Err f) e h =
    let same : f ≡ e = cc in
    ap Err same
behind-err event (Ok rest) e h = cc h

-- a row of a trace is none too many
within : (rows : ℕ) (fields : List (List ℕ)) → nat_lt most_rows (rows + 1) ≡ false → is_past rows fields ≡ false
within rows fields few =
    let early : (rows == most_streamed) ≡ false = grind (arith, nat_tests) in
    rw early refl

-- the rows of a trace
rows-stream : (n lines rows before : ℕ) (records : List (List (List ℕ))) (events : List (Event n)) → rows_from n lines (rows + 1) before records ≡ Ok events → stream_rows n lines rows before records ≡ Ok (all_events events)
unfolding rows_from stream_rows
rows-stream n lines rows before [] events h =
    let none : [] ≡ events = cc in
    rw (← none) refl
rows-stream n lines rows before (fields ∷ rest) events h = by (nat_lt most_rows (rows + 1)) refl h (λ event. rows-stream n lines (rows + 1) event.tick rest)
  where
    then-row : (r : Result (Event n) Kind) → event_of n lines before fields ≡ r → and_then_rows (rows + 1) r (λ event. rows_from n lines (rows + 1 + 1) event.tick rest) ≡ Ok events
        → ((event : Event n) (behind : List (Event n)) → rows_from n lines (rows + 1 + 1) event.tick rest ≡ Ok behind → stream_rows n lines (rows + 1) event.tick rest ≡ Ok (all_events behind))
        → and_then_asked (rows + 1) (asked_of n lines rows before fields) (λ asked. stream_rows n lines (rows_after rows asked) (tick_asked asked) rest) ≡ Ok (all_events events)
    then-row (Err kind) e q more = cc q
    then-row (Ok event) e q more =
        let behind = behind-ok event (rows_from n lines (rows + 1 + 1) event.tick rest) events q in
        let streamed = more event behind.0 behind.1 in
        rw (asked-ok n lines rows before fields event e, streamed) (ap (λ (es : List (Event n)). Ok (all_events es)) behind.2)

    by : (b : Bool) → nat_lt most_rows (rows + 1) ≡ b → (if b then Err whole.TooMany else and_then_rows (rows + 1) (event_of n lines before fields) (λ event. rows_from n lines (rows + 1 + 1) event.tick rest)) ≡ Ok events
        → ((event : Event n) (behind : List (Event n)) → rows_from n lines (rows + 1 + 1) event.tick rest ≡ Ok behind → stream_rows n lines (rows + 1) event.tick rest ≡ Ok (all_events behind))
        → (if is_past rows fields then Err fault.TooMany else and_then_asked (rows + 1) (asked_of n lines rows before fields) (λ asked. stream_rows n lines (rows_after rows asked) (tick_asked asked) rest)) ≡ Ok (all_events events)
    by true e q more = cc q
    by false e q more = rw (within rows fields e) (then-row (event_of n lines before fields) refl q more)

rows-fault : (n lines rows before : ℕ) (records : List (List (List ℕ))) (found : TraceFault) → found.kind ≢ kind.Op → rows_from n lines (rows + 1) before records ≡ Err (whole.Trace found) → stream_rows n lines rows before records ≡ Err (fault.Trace found)
unfolding rows_from stream_rows
rows-fault n lines rows before [] found other h = cc h
rows-fault n lines rows before (fields ∷ rest) found other h = by (nat_lt most_rows (rows + 1)) refl h (λ event. rows-fault n lines (rows + 1) event.tick rest found other)
  where
    then-row : (r : Result (Event n) Kind) → event_of n lines before fields ≡ r → and_then_rows (rows + 1) r (λ event. rows_from n lines (rows + 1 + 1) event.tick rest) ≡ Err (whole.Trace found)
        → ((event : Event n) → rows_from n lines (rows + 1 + 1) event.tick rest ≡ Err (whole.Trace found) → stream_rows n lines (rows + 1) event.tick rest ≡ Err (fault.Trace found))
        → and_then_asked (rows + 1) (asked_of n lines rows before fields) (λ asked. stream_rows n lines (rows_after rows asked) (tick_asked asked) rest) ≡ Err (fault.Trace found)
    then-row (Err bad) e q more =
        let same : record { row = rows + 1; kind = bad } ≡ found = cc in
        let kinds : bad ≡ found.kind = ap (λ (f : TraceFault). f.kind) same in
        rw (asked-err n lines rows before fields bad (λ is. other (sym kinds ∙ is)) e) (ap (λ (f : TraceFault). Err (fault.Trace f)) same)
    then-row (Ok event) e q more =
        let behind = behind-err event (rows_from n lines (rows + 1 + 1) event.tick rest) (whole.Trace found) q in
        rw (asked-ok n lines rows before fields event e, more event behind) refl

    by : (b : Bool) → nat_lt most_rows (rows + 1) ≡ b → (if b then Err whole.TooMany else and_then_rows (rows + 1) (event_of n lines before fields) (λ event. rows_from n lines (rows + 1 + 1) event.tick rest)) ≡ Err (whole.Trace found)
        → ((event : Event n) → rows_from n lines (rows + 1 + 1) event.tick rest ≡ Err (whole.Trace found) → stream_rows n lines (rows + 1) event.tick rest ≡ Err (fault.Trace found))
        → (if is_past rows fields then Err fault.TooMany else and_then_asked (rows + 1) (asked_of n lines rows before fields) (λ asked. stream_rows n lines (rows_after rows asked) (tick_asked asked) rest)) ≡ Err (fault.Trace found)
    by true e q more = cc q
    by false e q more = rw (within rows fields e) (then-row (event_of n lines before fields) refl q more)

-- and back
behind-asked : {n : ℕ} (asked : Asked n) (r : Result (List (Asked n)) StreamFault) (event : Event n) (events : List (Event n)) → asked_before asked r ≡ Ok (Happens event ∷ all_events events)
    → (asked ≡ Happens event) × (r ≡ Ok (all_events events))
behind-asked asked (Err e) event events h = cc h
behind-asked asked (Ok rest) event events h =
    let first : asked ≡ Happens event = cc in
    let others : rest ≡ all_events events = cc in
    (first, ap Ok others)

nothing-asked : {n : ℕ} (asked : Asked n) (r : Result (List (Asked n)) StreamFault) → asked_before asked r ≡ Ok [] → ⊥
nothing-asked asked (Err e) h = cc h
nothing-asked asked (Ok rest) h = cc h

stream-rows-back : (n lines rows before : ℕ) (records : List (List (List ℕ))) (events : List (Event n)) → rows + length events ≤ most_rows → stream_rows n lines rows before records ≡ Ok (all_events events) → rows_from n lines (rows + 1) before records ≡ Ok events
unfolding rows_from stream_rows
stream-rows-back n lines rows before [] [] few h = refl
stream-rows-back n lines rows before [] (event ∷ events) few h = cc h
stream-rows-back n lines rows before (fields ∷ rest) [] few h = by (is_past rows fields) h
  where
    then-row : (r : Result (Asked n) Kind) → and_then_asked (rows + 1) r (λ asked. stream_rows n lines (rows_after rows asked) (tick_asked asked) rest) ≡ Ok [] → ⊥
    then-row (Err e) q = cc q
    then-row (Ok asked) q = nothing-asked asked _ q

    by : (b : Bool) → (if b then Err fault.TooMany else and_then_asked (rows + 1) (asked_of n lines rows before fields) (λ asked. stream_rows n lines (rows_after rows asked) (tick_asked asked) rest)) ≡ Ok []
        → (if nat_lt most_rows (rows + 1) then Err whole.TooMany else and_then_rows (rows + 1) (event_of n lines before fields) (λ event. rows_from n lines (rows + 1 + 1) event.tick rest)) ≡ Ok []
    by true q = cc q
    by false q = absurd (then-row (asked_of n lines rows before fields) q)
stream-rows-back n lines rows before (fields ∷ rest) (event ∷ events) few h =
    by (is_past rows fields) h (stream-rows-back n lines (rows + 1) event.tick rest events (omega arith))
  where
    then-row : (r : Result (Asked n) Kind) → asked_of n lines rows before fields ≡ r
        → and_then_asked (rows + 1) r (λ asked. stream_rows n lines (rows_after rows asked) (tick_asked asked) rest) ≡ Ok (Happens event ∷ all_events events)
        → (stream_rows n lines (rows + 1) event.tick rest ≡ Ok (all_events events) → rows_from n lines (rows + 1 + 1) event.tick rest ≡ Ok events)
        → and_then_rows (rows + 1) (event_of n lines before fields) (λ event. rows_from n lines (rows + 1 + 1) event.tick rest) ≡ Ok (event ∷ events)
    then-row (Err e) is q more = cc q
    then-row (Ok asked) is q more =
        let behind = behind-asked asked (stream_rows n lines (rows_after rows asked) (tick_asked asked) rest) event events q in
        let found = event-asked n lines rows before fields event (is ∙ ap Ok behind.0) in
        let others = more (ap (λ (a : Asked n). stream_rows n lines (rows_after rows a) (tick_asked a) rest) (sym behind.0) ∙ behind.1) in
        rw (found, others) refl

    by : (b : Bool) → (if b then Err fault.TooMany else and_then_asked (rows + 1) (asked_of n lines rows before fields) (λ asked. stream_rows n lines (rows_after rows asked) (tick_asked asked) rest)) ≡ Ok (Happens event ∷ all_events events)
        → (stream_rows n lines (rows + 1) event.tick rest ≡ Ok (all_events events) → rows_from n lines (rows + 1 + 1) event.tick rest ≡ Ok events)
        → (if nat_lt most_rows (rows + 1) then Err whole.TooMany else and_then_rows (rows + 1) (event_of n lines before fields) (λ event. rows_from n lines (rows + 1 + 1) event.tick rest)) ≡ Ok (event ∷ events)
    by true q more = cc q
    by false q more =
        let allowed : nat_lt most_rows (rows + 1) ≡ false = grind (arith, nat_tests) in
        rw allowed (then-row (asked_of n lines rows before fields) refl q more)

pub stream-traces : StreamLaw
unfolding trace_of events_of stream_of stream_records
stream-traces n lines bytes events h few = go (records default_config (strip_bom bytes)) h
  where
    go : (all : List (List (List ℕ))) → stream_records n lines all ≡ Ok (all_events events) → events_of n lines all ≡ Ok events
    go [] q = cc q
    go (first ∷ rows) q = by (is_header first) q
      where
        by : (b : Bool) → (if b then stream_rows n lines 0 0 rows else stream_fault_at 0 kind.Header) ≡ Ok (all_events events) → (if b then rows_from n lines 1 0 rows else fault_at 0 kind.Header) ≡ Ok events
        by true q = stream-rows-back n lines 0 0 rows events (omega arith) q
        by false q = cc q

-- a whole trace
pub trace-streams : TraceLaw
unfolding trace_of events_of stream_of stream_records
trace-streams n lines bytes events h = go (records default_config (strip_bom bytes)) h
  where
    go : (all : List (List (List ℕ))) → events_of n lines all ≡ Ok events → stream_records n lines all ≡ Ok (all_events events)
    go [] q = cc q
    go (first ∷ rows) q = by (is_header first) q
      where
        by : (b : Bool) → (if b then rows_from n lines 1 0 rows else fault_at 0 kind.Header) ≡ Ok events → (if b then stream_rows n lines 0 0 rows else stream_fault_at 0 kind.Header) ≡ Ok (all_events events)
        by true q = rows-stream n lines 0 0 rows events q
        by false q = cc q

pub fault-streams : FaultLaw
unfolding trace_of events_of stream_of stream_records
fault-streams n lines bytes found other h = go (records default_config (strip_bom bytes)) h
  where
    header : fault_at {T = List (Event n)} 0 kind.Header ≡ Err (whole.Trace found) → stream_fault_at {T = List (Asked n)} 0 kind.Header ≡ Err (fault.Trace found)
    header q =
        let same : record { row = 0; kind = kind.Header } ≡ found = cc in
        ap (λ (f : TraceFault). Err (fault.Trace f)) same

    go : (all : List (List (List ℕ))) → events_of n lines all ≡ Err (whole.Trace found) → stream_records n lines all ≡ Err (fault.Trace found)
    go [] q = header q
    go (first ∷ rows) q = by (is_header first) q
      where
        by : (b : Bool) → (if b then rows_from n lines 1 0 rows else fault_at 0 kind.Header) ≡ Err (whole.Trace found) → (if b then stream_rows n lines 0 0 rows else stream_fault_at 0 kind.Header) ≡ Err (fault.Trace found)
        by true q = rows-fault n lines 0 0 rows found other q
        by false q = header q
