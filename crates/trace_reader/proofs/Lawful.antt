-- The events of a trace are events for its lines, at ticks that never fall, and there are no more than are allowed.
use Rattle.std.proofs.Common.{zero, suc, ◌≡◌, ℕ, ◌+◌, ◌-◌, ◌<◌, ◌≤◌, ◌==◌, ◌&&◌, List, [], ◌∷◌, length, map, Bool, true, false, Option, Some, None, unwrap_or, is_some, refl, sym, ◌∙◌, arith, nat_lt}
use Rattle.std.specs.{List.list_any, Prelude.{if◌then◌else◌, not, codes, slice_get, Result, Ok, Err}, Result.result_ok, Str.bytes_eq}
use Rattle.std.proofs.{lemmas.Bool.Decides.nat_tests, lemmas.List.length-map}
use Rattle.hex.{specs.Hex.decode_sized, specs.declared.error.FromHexError.FromHexError, proofs.HexLemmas.{decode_of-ok, decode_sized-ok, decode_sized-twice}}
use Rattle.masked_bytes.specs.Masked.{zero_elsewhere, IsMasked}
use Rattle.trace_reader.specs.{Events.{AreEventsFor, IsEventFor, IsOpFor}, Payload.{bytes_of, masked_of, masked_by, Masked, pairs_of}}
use Rattle.trace_reader.specs.Rows.{cut_of, event_at, event_of, latest_tick, line_digits, line_of, mask_of, op_of, or_fault, read_of, text_at, tick_of, write_of}
use Rattle.trace_reader.specs.{Trace.{and_then_rows, event_before, events_of, fault_at, is_header, most_rows, rows_from, trace_of}, declared.event.Event.Event}
use Rattle.trace_reader.specs.{declared.event.EventOp.EventOp, declared.event.EventOp.TheVariants.{Read, Write, Mask, Cut}, declared.fault.Kind.Kind}
use Rattle.trace_reader.{specs.declared.fault.ParseFault.ParseFault, proofs.Numbers.number_within, proofs.Pairs.{list_any-some, masked_from}}
use Rattle.trace_reader.specs.declared.fault.Kind.TheVariants as kind
use Rattle.trace_reader.specs.declared.fault.ParseFault.TheVariants as fault
use Rattle.csv.specs.Reading.{default_config, records, strip_bom}

-- the bytes of a write
hex-length : (n : ℕ) (text bytes : List ℕ) (r : Result (List ℕ) FromHexError) → decode_sized text n ≡ r → result_ok r ≡ Some bytes → length bytes ≡ n
hex-length n text bytes (Err e) is h = cc h
hex-length n text bytes (Ok found) is h =
    let size = decode_sized-ok text n found is in
    let whole = decode_of-ok text found (sym (decode_sized-twice text n size) ∙ is) in
    let same : found ≡ bytes = cc in
    rw (← same) (omega (arith, whole.1))

pub bytes_of-length : (n : ℕ) (text bytes : List ℕ) → bytes_of n text ≡ Some bytes → length bytes ≡ n
unfolding bytes_of
bytes_of-length n text bytes h = hex-length n text bytes (decode_sized text n) refl h

-- the bytes of a masked write
zero_elsewhere-pairs : (pairs : List (Option ℕ)) → zero_elsewhere (map (λ pair. unwrap_or pair 0) pairs) (map is_some pairs) ≡ true
zero_elsewhere-pairs [] = refl
zero_elsewhere-pairs (None ∷ pairs) = zero_elsewhere-pairs pairs
zero_elsewhere-pairs (Some byte ∷ pairs) = zero_elsewhere-pairs pairs

masked-lawful : (n : ℕ) (pairs : List (Option ℕ)) (m : Masked) → masked_from n (Some pairs) ≡ Some m → IsMasked n m.bytes m.given
masked-lawful n pairs m h = by ((length pairs == n) && list_any is_some pairs) refl h
  where
    by : (b : Bool) → ((length pairs == n) && list_any is_some pairs) ≡ b → (if b then Some (masked_by pairs) else None) ≡ Some m → IsMasked n m.bytes m.given
    by false e q = cc q
    by true e q =
        let same : masked_by pairs ≡ m = cc in
        let size : length pairs ≡ n = grind (arith, nat_tests) in
        let some : list_any is_some pairs ≡ true = grind (arith, nat_tests) in
        rw (← same) record {
          bytes_len = length-map pairs _ ∙ size;
          given_len = length-map pairs _ ∙ size;
          some = rw (list_any-some pairs, some) refl;
          others = rw (zero_elsewhere-pairs pairs) refl;
        }

masked-lawful-found : (n : ℕ) (found : Option (List (Option ℕ))) (m : Masked) → masked_from n found ≡ Some m → IsMasked n m.bytes m.given
masked-lawful-found n None m h = cc h
masked-lawful-found n (Some pairs) m h = masked-lawful n pairs m h

pub masked_of-lawful : (n : ℕ) (text : List ℕ) (m : Masked) → masked_of n text ≡ Some m → IsMasked n m.bytes m.given
unfolding masked_of
masked_of-lawful n text m h = masked-lawful-found n (pairs_of text) m h

-- a step that gave a value had one
pub or_fault-ok : {T U : Type 0} (o : Option T) (fault : Kind) (next : T → Result U Kind) (u : U)
    → or_fault o fault next ≡ Ok u → (x : T) × (o ≡ Some x) × (next x ≡ Ok u)
or_fault-ok None fault next u h = cc h
or_fault-ok (Some x) fault next u h = (x, refl, h)

if-ok : {U : Type 0} (b : Bool) (r : Result U Kind) (fault : Kind) (u : U) → (if b then r else Err fault) ≡ Ok u → r ≡ Ok u
if-ok b r fault u h = grind arith

line-below : (lines line : ℕ) (text : List ℕ) → 1 ≤ lines → line_of lines text ≡ Some line → line < lines
line-below lines line text some h =
    let within = number_within (line_digits lines) (lines - 1) line text h in
    omega arith

-- each operation
read-lawful : (n lines : ℕ) (line payload : List ℕ) (op : EventOp n) → 1 ≤ lines → read_of n lines line payload ≡ Ok op → IsOpFor lines op
unfolding read_of
read-lawful n lines line payload op some h =
    let a = or_fault-ok (line_of lines line) kind.Line _ op h in
    let b : Ok (Read a.0) ≡ Ok op = if-ok (length payload == 0) (Ok (Read a.0)) kind.Payload op a.2 in
    let same : Read a.0 ≡ op = cc in
    rw (← same) (line-below lines a.0 line some a.1)

write-lawful : (n lines : ℕ) (line payload : List ℕ) (op : EventOp n) → 1 ≤ lines → write_of n lines line payload ≡ Ok op → IsOpFor lines op
unfolding write_of
write-lawful n lines line payload op some h =
    let a = or_fault-ok (line_of lines line) kind.Line _ op h in
    let b = or_fault-ok (bytes_of n payload) kind.Payload _ op a.2 in
    let same : Write a.0 b.0 ≡ op = cc in
    rw (← same) (line-below lines a.0 line some a.1, bytes_of-length n payload b.0 b.1)

mask-lawful : (n lines : ℕ) (line payload : List ℕ) (op : EventOp n) → 1 ≤ lines → mask_of n lines line payload ≡ Ok op → IsOpFor lines op
unfolding mask_of
mask-lawful n lines line payload op some h =
    let a = or_fault-ok (line_of lines line) kind.Line _ op h in
    let b = or_fault-ok (masked_of n payload) kind.Payload _ op a.2 in
    let same : Mask a.0 b.0.bytes b.0.given ≡ op = cc in
    rw (← same) (line-below lines a.0 line some a.1, masked_of-lawful n payload b.0 b.1)

cut-lawful : (n lines : ℕ) (line payload : List ℕ) (op : EventOp n) → cut_of n lines line payload ≡ Ok op → IsOpFor lines op
unfolding cut_of
cut-lawful n lines line payload op h = by (not (length line == 0)) (not (length payload == 0)) h
  where
    by : (a b : Bool) → (if a then Err kind.Line else if b then Err kind.Payload else Ok Cut) ≡ Ok op → IsOpFor lines op
    by false false q =
        let same : Cut ≡ op = cc in
        rw (← same) tt
    by _ _ q = cc q

op-lawful : (n lines : ℕ) (op line payload : List ℕ) (found : EventOp n) → 1 ≤ lines → op_of n lines op line payload ≡ Ok found → IsOpFor lines found
unfolding op_of
op-lawful n lines op line payload found some h =
    by (bytes_eq op (codes "R")) (bytes_eq op (codes "W")) (bytes_eq op (codes "M")) (bytes_eq op (codes "C")) h
  where
    by : (r w m c : Bool)
        → (if r then read_of n lines line payload else if w then write_of n lines line payload else if m then mask_of n lines line payload else if c then cut_of n lines line payload else Err kind.Op) ≡ Ok found
        → IsOpFor lines found
    by true w m c q = read-lawful n lines line payload found some q
    by false true m c q = write-lawful n lines line payload found some q
    by false false true c q = mask-lawful n lines line payload found some q
    by false false false true q = cut-lawful n lines line payload found q
    by false false false false q = cc q

event_at-ok : (n tick : ℕ) (r : Result (EventOp n) Kind) (event : Event n) → event_at tick r ≡ Ok event → (tick ≡ event.tick) × (r ≡ Ok event.op)
event_at-ok n tick (Err e) event h = cc h
event_at-ok n tick (Ok op) event h =
    let same : record { tick = tick; op = op } ≡ event = cc in
    rw (← same) (refl, refl)

pub event_of-lawful : (n lines before : ℕ) (fields : List (List ℕ)) (event : Event n) → 1 ≤ lines → event_of n lines before fields ≡ Ok event → IsEventFor lines before event
unfolding event_of
event_of-lawful n lines before fields event some h = whole (not (length fields == 4)) h
  where
    ticked : (tick : ℕ) → tick_of (text_at fields 0) ≡ Some tick → (b : Bool) → nat_lt tick before ≡ b
        → (if b then Err kind.Order else event_at tick (op_of n lines (text_at fields 1) (text_at fields 2) (text_at fields 3))) ≡ Ok event
        → IsEventFor lines before event
    ticked tick is true e q = cc q
    ticked tick is false e q =
        let at = event_at-ok n tick (op_of n lines (text_at fields 1) (text_at fields 2) (text_at fields 3)) event q in
        let within = number_within 13 latest_tick tick (text_at fields 0) is in
        let rises : before ≤ tick = grind (arith, nat_tests) in
        record {
          rises = rw at.0 at rises;
          in_time = rw at.0 at within;
          op = op-lawful n lines (text_at fields 1) (text_at fields 2) (text_at fields 3) event.op some at.1;
        }

    whole : (b : Bool)
        → (if b then Err kind.Fields
        else or_fault (tick_of (text_at fields 0)) kind.Tick (λ tick.
        if nat_lt tick before then Err kind.Order
        else event_at tick (op_of n lines (text_at fields 1) (text_at fields 2) (text_at fields 3)))) ≡ Ok event
        → IsEventFor lines before event
    whole true q = cc q
    whole false q =
        let a = or_fault-ok (tick_of (text_at fields 0)) kind.Tick _ event q in
        ticked a.0 a.1 (nat_lt a.0 before) refl a.2

-- all rows
event_before-ok : (n : ℕ) (event : Event n) (r : Result (List (Event n)) ParseFault) (events : List (Event n)) → event_before event r ≡ Ok events
    → (rest : List (Event n)) × (r ≡ Ok rest) × (events ≡ event ∷ rest)
event_before-ok n event (Err e) events h = cc h
event_before-ok n event (Ok rest) events h =
    let same : event ∷ rest ≡ events = cc in
    (rest, refl, sym same)

and_then_rows-ok : (n row : ℕ) (r : Result (Event n) Kind) (behind : Event n → Result (List (Event n)) ParseFault) (events : List (Event n)) → and_then_rows row r behind ≡ Ok events
    → (event : Event n) × (r ≡ Ok event) × (rest : List (Event n)) × (behind event ≡ Ok rest) × (events ≡ event ∷ rest)
and_then_rows-ok n row (Err e) behind events h = cc h
and_then_rows-ok n row (Ok event) behind events h =
    let a = event_before-ok n event (behind event) events h in
    (event, refl, a.0, a.1, a.2)

empty-size : {T : Type 0} (events : List T) (row : ℕ) → [] ≡ events → row ≤ most_rows + 1 → row + length events ≤ most_rows + 1
empty-size events row none within = rw (← none) (omega arith)

empty-lawful : {n : ℕ} (lines before : ℕ) (events : List (Event n)) → [] ≡ events → AreEventsFor lines before events
unfolding AreEventsFor
empty-lawful lines before events none = rw (← none) tt

pub rows_from-lawful : (n lines row before : ℕ) (rows : List (List (List ℕ))) (events : List (Event n)) → 1 ≤ lines → row ≤ most_rows + 1 → rows_from n lines row before rows ≡ Ok events
    → AreEventsFor lines before events × (row + length events ≤ most_rows + 1)
unfolding rows_from AreEventsFor
rows_from-lawful n lines row before [] events some within h =
    let none : [] ≡ events = cc in
    (empty-lawful lines before events none, empty-size events row none within)
rows_from-lawful n lines row before (fields ∷ rest) events some within h =
    by (nat_lt most_rows row) refl h (λ event. rows_from-lawful n lines (row + 1) event.tick rest)
  where
    by : (b : Bool) → nat_lt most_rows row ≡ b
        → (if b then Err fault.TooMany else and_then_rows row (event_of n lines before fields) (λ event. rows_from n lines (row + 1) event.tick rest)) ≡ Ok events
        → ((event : Event n) (behind : List (Event n)) → 1 ≤ lines → row + 1 ≤ most_rows + 1 → rows_from n lines (row + 1) event.tick rest ≡ Ok behind → AreEventsFor lines event.tick behind × (row + 1 + length behind ≤ most_rows + 1))
        → AreEventsFor lines before events × (row + length events ≤ most_rows + 1)
    by true e q more = cc q
    by false e q more =
        let a = and_then_rows-ok n row (event_of n lines before fields) (λ event. rows_from n lines (row + 1) event.tick rest) events q in
        let allowed : row + 1 ≤ most_rows + 1 = grind (arith, nat_tests) in
        let behind = more a.0 a.2 some allowed a.3 in
        let size = behind.1 in
        rw a.4 ((event_of-lawful n lines before fields a.0 some a.1, behind.0), omega arith)

-- the events of a trace
events_of-lawful : (n lines : ℕ) (all : List (List (List ℕ))) (events : List (Event n)) → 1 ≤ lines → events_of n lines all ≡ Ok events → AreEventsFor lines 0 events × (length events ≤ most_rows)
unfolding events_of
events_of-lawful n lines [] events some h = cc h
events_of-lawful n lines (first ∷ rows) events some h = by (is_header first) h
  where
    by : (b : Bool) → (if b then rows_from n lines 1 0 rows else fault_at 0 kind.Header) ≡ Ok events → AreEventsFor lines 0 events × (length events ≤ most_rows)
    by true q =
        let all = rows_from-lawful n lines 1 0 rows events some (omega arith) q in
        let size = all.1 in
        (all.0, omega arith)
    by false q = cc q

pub trace_of-lawful : (n lines : ℕ) (bytes : List ℕ) (events : List (Event n)) → 1 ≤ lines → trace_of n lines bytes ≡ Ok events → AreEventsFor lines 0 events × (length events ≤ most_rows)
unfolding trace_of
trace_of-lawful n lines bytes events some h = events_of-lawful n lines (records default_config (strip_bom bytes)) events some h

-- one of the events: its line exists, and its tick is in time
pub AreEventsFor-at : {n : ℕ} (lines before : ℕ) (events : List (Event n)) (i : ℕ) (event : Event n) → AreEventsFor lines before events → slice_get events i ≡ Some event
    → IsOpFor lines event.op × (event.tick ≤ latest_tick)
unfolding AreEventsFor
AreEventsFor-at lines before [] i event h at = cc at
AreEventsFor-at lines before (first ∷ rest) zero event h at =
    let same : first ≡ event = cc in
    rw (← same) (h.0.op, h.0.in_time)
AreEventsFor-at lines before (first ∷ rest) (suc i) event h at = AreEventsFor-at lines first.tick rest i event h.1 at

-- the first of lawful events, and those behind it
pub lawful-first : {n : ℕ} (lines before : ℕ) (event : Event n) (rest : List (Event n)) → AreEventsFor lines before (event ∷ rest) → IsEventFor lines before event × AreEventsFor lines event.tick rest
unfolding AreEventsFor
lawful-first lines before event rest h = h
