-- How a streamed trace is read, one record after the other.
use Rattle.std.proofs.Common.{◌≡◌, ◌⊎◌, ℕ, suc, zero, ◌+◌, ◌<◌, ◌≤◌, ◌==◌, ◌&&◌, List, [], ◌∷◌, ◌++◌, length, true, false, Bool, Option, Some, None, inl, inr, refl, sym, ap, subst, ◌∙◌, append_assoc, arith}
use Rattle.std.{specs.Prelude.{option_map, if◌then◌else◌, Result, Ok, Err}, proofs.lemmas.Bool.Decides.nat_tests, proofs.lemmas.List.append-nil}
use Rattle.csv.specs.{Machine.{Read, next_record}, Reading.{default_config, records_from, strip_bom}, declared.parser.State.State}
use Rattle.csv.specs.declared.parser.State.TheVariants as st
use Rattle.trace_reader.specs.{Records.unended, Rows.event_of, Trace.is_header, declared.fault.Kind.Kind}
use Rattle.trace_reader.proofs.Reading.{records_from-none, records_from-some, shorter, unended-le}
use Rattle.trace_reader.specs.declared.fault.Kind.TheVariants as kind
use Rattle.trace_stream.specs.Arrived.{Arrived, Comes, StaysEnded}
use Rattle.trace_stream.specs.Asked.{any_of, asked_any, asked_by, asked_event, asked_of, asked_peek, asked_settle, asked_settling, asked_until, is_any, is_look, is_peek, is_query, is_settle, is_until}
use Rattle.trace_stream.specs.{Asked.{peek_of, rows_after, settle_of, settled_of, settling_of, tick_asked, until_of}, Kept.{FindsKept, IsKeptOf, kept_fields, most_fields}}
use Rattle.trace_stream.specs.Stream.{AsksNext, HasFault, HasFront, Opens, Standing, asked_before, asked_from, front_from, front_of, front_records, front_rows, is_past}
use Rattle.trace_stream.specs.{Stream.{most_streamed, records_left, stream_fault_at, stream_of, stream_records, stream_rows}, declared.asked.Asked.Asked}
use Rattle.trace_stream.specs.{declared.asked.Asked.TheVariants.{Happens, Settle, Query, Look, Peek, Until, UntilAny}, declared.asked.Peek.Peek as Peeked, declared.asked.Until.Until as Waited}
use Rattle.trace_stream.specs.declared.asked.UntilAny.{UntilAny as Awaited}
use Rattle.trace_stream.proofs.{Judging.{asked-kept, header-kept, is_settle-kept}, KeptRecords.{kept_read, next_kept-is, none-kept, some-is, some-kept}, Steps.comes-back}
use Rattle.trace_stream.specs.declared.fault.StreamFault.TheVariants as fault

-- the records of a text, however many are asked for
records_from-same : (k m m2 : ℕ) (s : State) (text : List ℕ) → length text + unended s < k → length text + unended s ≤ m → length text + unended s ≤ m2
    → records_from default_config m s text ≡ records_from default_config m2 s text
records_from-same zero m m2 s text below a b = absurd (omega arith)
records_from-same (suc k) m m2 s text below a b = by (next_record default_config s [] [] text) refl (records_from-same k)
  where
    by : (o : Option Read) → next_record default_config s [] [] text ≡ o
        → ((m m2 : ℕ) (s : State) (text : List ℕ) → length text + unended s < k → length text + unended s ≤ m → length text + unended s ≤ m2 → records_from default_config m s text ≡ records_from default_config m2 s text)
        → records_from default_config m s text ≡ records_from default_config m2 s text
    by None e more = records_from-none m s text e ∙ sym (records_from-none m2 s text e)
    by (Some p) e more =
        let first = records_from-some m s text p e a in
        let second = records_from-some m2 s text p e b in
        let less = shorter s [] [] text p e in
        first.1 ∙ ap (λ (rows : List (List (List ℕ))). p.0 ∷ rows) (more first.0 second.0 p.1 p.2 (omega arith) first.2 second.2) ∙ sym second.1

records_left-some : (s : State) (text : List ℕ) (p : Read) → next_record default_config s [] [] text ≡ Some p → records_left s text ≡ p.0 ∷ records_left p.1 p.2
records_left-some s text p e =
    let small = unended-le s in
    let first = records_from-some (length text + 1) s text p e (omega arith) in
    let less = unended-le p.1 in
    first.1 ∙ ap (λ (rows : List (List (List ℕ))). p.0 ∷ rows) (records_from-same (length p.2 + 2) first.0 (length p.2 + 1) p.1 p.2 (omega arith) first.2 (omega arith))

records_left-none : (s : State) (text : List ℕ) → next_record default_config s [] [] text ≡ None → records_left s text ≡ []
records_left-none s text e = records_from-none (length text + 1) s text e

-- a record that was found is the first of those that are left: it is whole, or it has at least five fields, as what is kept of it
abbrev IsLeft : List (List (List ℕ)) → List (List ℕ) → State → List ℕ → Type 0
IsLeft left kept s text =
    (whole : List (List ℕ)) × (rest : List (List (List ℕ))) × (left ≡ whole ∷ rest)
    × (((kept_fields whole ≡ kept) × (rest ≡ records_left s text)) ⊎ ((length kept ≡ most_fields) × (length (kept_fields whole) ≡ most_fields)))

left-by : (s0 s : State) (text rest : List ℕ) (kept : List (List ℕ)) (o : Option Read) → next_record default_config s0 [] [] text ≡ o → IsKeptOf (option_map kept_read o) kept s rest
    → IsLeft (records_left s0 text) kept s rest
left-by s0 s text rest kept None e (inl is) = cc is
left-by s0 s text rest kept None e (inr five) = absurd five.1
left-by s0 s text rest kept (Some p) e (inl is) =
    let o = some-kept (Some p) kept s rest is in
    let first : p ≡ (o.0, s, rest) = some-is p (o.0, s, rest) o.1 in
    (o.0, records_left s rest, rw (← ap (λ (q : Read). q.0) first, ← ap (λ (q : Read). q.1) first, ← ap (λ (q : Read). q.2) first) (records_left-some s0 text p e), inl (o.2, refl))
left-by s0 s text rest kept (Some p) e (inr five) = (p.0, records_left p.1 p.2, records_left-some s0 text p e, inr (five.0, five.1))

pub left-found : (s0 s : State) (text more : List ℕ) (kept : List (List ℕ)) (new : Arrived) → FindsKept true s0 text kept s new → Comes new.ended more
    → IsLeft (records_left s0 (text ++ more)) kept s (new.bytes ++ more)
left-found s0 s text more kept new h comes =
    left-by s0 s (text ++ more) (new.bytes ++ more) kept (next_record default_config s0 [] [] (text ++ more)) refl
    (subst (λ (o : Option Read). IsKeptOf o kept s (new.bytes ++ more)) (next_kept-is s0 (text ++ more)) (h more comes))

pub left-none : (s0 s : State) (text : List ℕ) (kept : List (List ℕ)) (new : Arrived) → FindsKept false s0 text kept s new → records_left s0 text ≡ []
left-none s0 s text kept new h =
    records_left-none s0 text (none-kept (next_record default_config s0 [] [] text) (sym (next_kept-is s0 text) ∙ h.0))

-- more than four fields are no row, and no header
five-differ : (size : ℕ) → size ≡ most_fields → (size == 4) ≡ false
five-differ size five = rw five refl

five-event : (n lines rows before : ℕ) (fields : List (List ℕ)) → length fields ≡ most_fields → asked_of n lines rows before fields ≡ Err kind.Fields
unfolding asked_of event_of
five-event n lines rows before fields five = rw (five-differ (length fields) five) refl

five-settle : (fields : List (List ℕ)) → length fields ≡ most_fields → is_settle fields ≡ false
five-settle fields five = rw (five-differ (length fields) five) refl

five-header : (fields : List (List ℕ)) → length fields ≡ most_fields → is_header fields ≡ false
unfolding is_header
five-header fields five = rw (five-differ (length fields) five) refl

-- what is judged of what is kept is true of the record
abbrev IsJudged : ℕ → ℕ → ℕ → ℕ → List (List ℕ) → List (List ℕ) → Type 0
IsJudged n lines rows before whole kept = (asked_of n lines rows before whole ≡ asked_of n lines rows before kept) × (is_settle whole ≡ is_settle kept)

kept-judged : (n lines rows before : ℕ) (whole : List (List ℕ)) → n ≤ 128 → IsJudged n lines rows before whole (kept_fields whole)
kept-judged n lines rows before whole small = (sym (asked-kept n lines rows before whole small), sym (is_settle-kept whole))

judged : (n lines rows before : ℕ) (whole kept : List (List ℕ)) (R : Type 0) → n ≤ 128
    → ((kept_fields whole ≡ kept) × R) ⊎ ((length kept ≡ most_fields) × (length (kept_fields whole) ≡ most_fields)) → IsJudged n lines rows before whole kept
judged n lines rows before whole kept R small (inl is) = subst (λ (fields : List (List ℕ)). IsJudged n lines rows before whole fields) is.0 (kept-judged n lines rows before whole small)
judged n lines rows before whole kept R small (inr five) =
    let of = kept-judged n lines rows before whole small in (
      of.0 ∙ five-event n lines rows before (kept_fields whole) five.1 ∙ sym (five-event n lines rows before kept five.0),
      of.1 ∙ five-settle (kept_fields whole) five.1 ∙ sym (five-settle kept five.0),
    )

-- a row that asks for something has four fields, so its record is whole
goes-behind : (n lines rows before : ℕ) (whole kept : List (List ℕ)) (rest behind : List (List (List ℕ))) (asked : Asked n) → asked_of n lines rows before kept ≡ Ok asked
    → ((kept_fields whole ≡ kept) × (rest ≡ behind)) ⊎ ((length kept ≡ most_fields) × (length (kept_fields whole) ≡ most_fields)) → rest ≡ behind
goes-behind n lines rows before whole kept rest behind asked e (inl is) = is.1
goes-behind n lines rows before whole kept rest behind asked e (inr five) =
    let clash : Err kind.Fields ≡ Ok asked = sym (five-event n lines rows before kept five.0) ∙ e in
    cc clash

-- a row
pub row-asks : (n lines rows before : ℕ) (fields : List (List ℕ)) (rest : List (List (List ℕ))) (asked : Asked n) → is_past rows fields ≡ false → asked_of n lines rows before fields ≡ Ok asked
    → stream_rows n lines rows before (fields ∷ rest) ≡ asked_before asked (stream_rows n lines (rows_after rows asked) (tick_asked asked) rest)
unfolding stream_rows
row-asks n lines rows before fields rest asked within e = rw (within, e) refl

pub row-faulty : (n lines rows before : ℕ) (fields : List (List ℕ)) (rest : List (List (List ℕ))) (kind : Kind) → is_past rows fields ≡ false → asked_of n lines rows before fields ≡ Err kind
    → stream_rows n lines rows before (fields ∷ rest) ≡ stream_fault_at (rows + 1) kind
unfolding stream_rows
row-faulty n lines rows before fields rest kind within e = rw (within, e) refl

pub row-past : (n lines rows before : ℕ) (fields : List (List ℕ)) (rest : List (List (List ℕ))) → is_past rows fields ≡ true
    → stream_rows n lines rows before (fields ∷ rest) ≡ Err fault.TooMany
unfolding stream_rows
row-past n lines rows before fields rest past = rw past refl

pub row-none : (n lines rows before : ℕ) → stream_rows n lines rows before [] ≡ Ok []
unfolding stream_rows
row-none n lines rows before = refl

-- and what stands in front of the first fault
pub front-asks : (n lines rows before : ℕ) (fields : List (List ℕ)) (rest : List (List (List ℕ))) (asked : Asked n) → is_past rows fields ≡ false → asked_of n lines rows before fields ≡ Ok asked
    → front_rows n lines rows before (fields ∷ rest) ≡ asked ∷ front_rows n lines (rows_after rows asked) (tick_asked asked) rest
unfolding front_rows
front-asks n lines rows before fields rest asked within e = rw (within, e) refl

pub front-faulty : (n lines rows before : ℕ) (fields : List (List ℕ)) (rest : List (List (List ℕ))) (kind : Kind) → is_past rows fields ≡ false → asked_of n lines rows before fields ≡ Err kind
    → front_rows n lines rows before (fields ∷ rest) ≡ []
unfolding front_rows
front-faulty n lines rows before fields rest kind within e = rw (within, e) refl

pub front-past : (n lines rows before : ℕ) (fields : List (List ℕ)) (rest : List (List (List ℕ))) → is_past rows fields ≡ true
    → front_rows n lines rows before (fields ∷ rest) ≡ []
unfolding front_rows
front-past n lines rows before fields rest past = rw past refl

past-judged : (rows : ℕ) (whole kept : List (List ℕ)) (b : Bool) → is_settle whole ≡ is_settle kept → is_past rows kept ≡ b → is_past rows whole ≡ b
past-judged rows whole kept b same is = rw same is

-- what is asked from a standing on, by its records
from-rows : (n : ℕ) (old : Standing) (bytes more : List ℕ) (rows : List (List (List ℕ))) → records_left old.state ((old.arrived.bytes ++ bytes) ++ more) ≡ rows
    → asked_from n old (bytes ++ more) ≡ stream_rows n old.lines old.rows old.tick rows
unfolding asked_from
from-rows n old bytes more rows e =
    ap (λ (t : List ℕ). stream_rows n old.lines old.rows old.tick (records_left old.state t)) (sym (append_assoc old.arrived.bytes bytes more))
    ∙ ap (stream_rows n old.lines old.rows old.tick) e

front-rows : (n : ℕ) (old : Standing) (bytes more : List ℕ) (rows : List (List (List ℕ))) → records_left old.state ((old.arrived.bytes ++ bytes) ++ more) ≡ rows
    → front_from n old (bytes ++ more) ≡ front_rows n old.lines old.rows old.tick rows
unfolding front_from
front-rows n old bytes more rows e =
    ap (λ (t : List ℕ). front_rows n old.lines old.rows old.tick (records_left old.state t)) (sym (append_assoc old.arrived.bytes bytes more))
    ∙ ap (front_rows n old.lines old.rows old.tick) e

pub asks-some : (n : ℕ) (old new : Standing) (bytes : List ℕ) (kept : List (List ℕ)) (asked : Asked n) → n ≤ 128
    → FindsKept true old.state (old.arrived.bytes ++ bytes) kept new.state new.arrived → asked_of n old.lines old.rows old.tick kept ≡ Ok asked
    → is_past old.rows kept ≡ false → new.rows ≡ rows_after old.rows asked → new.tick ≡ tick_asked asked → new.lines ≡ old.lines → AsksNext old bytes (Some asked) new
unfolding asked_from front_from
asks-some n old new bytes kept asked small h e within rows tick lines = λ more comes.
    let found = left-found old.state new.state (old.arrived.bytes ++ bytes) more kept new.arrived h comes in
    let same = judged n old.lines old.rows old.tick found.0 kept (found.1 ≡ records_left new.state (new.arrived.bytes ++ more)) small found.3 in
    let not_past = past-judged old.rows found.0 kept false same.1 within in
    let behind = goes-behind n old.lines old.rows old.tick found.0 kept found.1 _ asked e found.3 in (
      from-rows n old bytes more _ found.2
          ∙ row-asks n old.lines old.rows old.tick found.0 found.1 asked not_past (same.0 ∙ e)
          ∙ ap (λ (rest : List (List (List ℕ))). asked_before asked (stream_rows n old.lines (rows_after old.rows asked) (tick_asked asked) rest)) behind
          ∙ rw (rows, tick, lines) refl,
      front-rows n old bytes more _ found.2
          ∙ front-asks n old.lines old.rows old.tick found.0 found.1 asked not_past (same.0 ∙ e)
          ∙ ap (λ (rest : List (List (List ℕ))). asked ∷ front_rows n old.lines (rows_after old.rows asked) (tick_asked asked) rest) behind
          ∙ rw (rows, tick, lines) refl,
    )

pub asks-none : (n : ℕ) (old new : Standing) (bytes : List ℕ) (kept : List (List ℕ)) → FindsKept false old.state (old.arrived.bytes ++ bytes) kept new.state new.arrived
    → AsksNext {n = n} old bytes None new
unfolding asked_from
asks-none n old new bytes kept h =
    (ap (stream_rows n old.lines old.rows old.tick) (left-none old.state new.state (old.arrived.bytes ++ bytes) kept new.arrived h) ∙ row-none n old.lines old.rows old.tick, h.1)

pub asks-faulty : (n : ℕ) (old new : Standing) (bytes : List ℕ) (kept : List (List ℕ)) (kind : Kind) → n ≤ 128
    → FindsKept true old.state (old.arrived.bytes ++ bytes) kept new.state new.arrived → asked_of n old.lines old.rows old.tick kept ≡ Err kind
    → is_past old.rows kept ≡ false → HasFault (asked_from n old) bytes (fault.Trace (record { row = old.rows + 1; kind = kind })) new.arrived.ended
asks-faulty n old new bytes kept kind small h e within = λ more comes.
    let found = left-found old.state new.state (old.arrived.bytes ++ bytes) more kept new.arrived h comes in
    let same = judged n old.lines old.rows old.tick found.0 kept (found.1 ≡ records_left new.state (new.arrived.bytes ++ more)) small found.3 in
    from-rows n old bytes more _ found.2
    ∙ row-faulty n old.lines old.rows old.tick found.0 found.1 kind (past-judged old.rows found.0 kept false same.1 within) (same.0 ∙ e)

pub asks-too_many : (n : ℕ) (old new : Standing) (bytes : List ℕ) (kept : List (List ℕ)) → n ≤ 128 → FindsKept true old.state (old.arrived.bytes ++ bytes) kept new.state new.arrived
    → is_past old.rows kept ≡ true → HasFault (asked_from n old) bytes fault.TooMany new.arrived.ended
asks-too_many n old new bytes kept small h past = λ more comes.
    let found = left-found old.state new.state (old.arrived.bytes ++ bytes) more kept new.arrived h comes in
    let same = judged n old.lines old.rows old.tick found.0 kept (found.1 ≡ records_left new.state (new.arrived.bytes ++ more)) small found.3 in
    from-rows n old bytes more _ found.2
    ∙ row-past n old.lines old.rows old.tick found.0 found.1 (past-judged old.rows found.0 kept true same.1 past)

-- behind the rows that were read stands the fault
pub no-front : (n : ℕ) (old new : Standing) (bytes : List ℕ) (kept : List (List ℕ)) (kind : Kind) → n ≤ 128
    → FindsKept true old.state (old.arrived.bytes ++ bytes) kept new.state new.arrived → asked_of n old.lines old.rows old.tick kept ≡ Err kind
    → is_past old.rows kept ≡ false → HasFront (front_from n old) bytes [] new.arrived.ended
no-front n old new bytes kept kind small h e within = λ more comes.
    let found = left-found old.state new.state (old.arrived.bytes ++ bytes) more kept new.arrived h comes in
    let same = judged n old.lines old.rows old.tick found.0 kept (found.1 ≡ records_left new.state (new.arrived.bytes ++ more)) small found.3 in
    front-rows n old bytes more _ found.2
    ∙ front-faulty n old.lines old.rows old.tick found.0 found.1 kind (past-judged old.rows found.0 kept false same.1 within) (same.0 ∙ e)

pub no-front-past : (n : ℕ) (old new : Standing) (bytes : List ℕ) (kept : List (List ℕ)) → n ≤ 128 → FindsKept true old.state (old.arrived.bytes ++ bytes) kept new.state new.arrived
    → is_past old.rows kept ≡ true → HasFront (front_from n old) bytes [] new.arrived.ended
no-front-past n old new bytes kept small h past = λ more comes.
    let found = left-found old.state new.state (old.arrived.bytes ++ bytes) more kept new.arrived h comes in
    let same = judged n old.lines old.rows old.tick found.0 kept (found.1 ≡ records_left new.state (new.arrived.bytes ++ more)) small found.3 in
    front-rows n old bytes more _ found.2
    ∙ front-past n old.lines old.rows old.tick found.0 found.1 (past-judged old.rows found.0 kept true same.1 past)

-- how many rows have a number stays within the greatest
pub happens-counted : (n lines rows before : ℕ) (fields : List (List ℕ)) (asked : Asked n) → asked_of n lines rows before fields ≡ Ok asked → rows ≤ most_streamed → is_past rows fields ≡ false
    → rows_after rows asked ≤ most_streamed
unfolding asked_of
happens-counted n lines rows before fields (Settle tick) e within past = within
happens-counted n lines rows before fields (Query tick) e within past = within
happens-counted n lines rows before fields (Look tick) e within past = within
happens-counted n lines rows before fields (Peek peek) e within past = within
happens-counted n lines rows before fields (Until until) e within past = within
happens-counted n lines rows before fields (UntilAny until) e within past = within
happens-counted n lines rows before fields (Happens event) e within past = by (is_settle fields) refl e
  where
    few : (b : Bool) → is_settle fields ≡ b → b ≡ false → rows + 1 ≤ most_streamed
    few b is none =
        let not_last : (rows == most_streamed) ≡ false = rest (rows == most_streamed) (rw (is ∙ none) at past) in
        less not_last
      where
        rest : (c : Bool) → (c && true) ≡ false → c ≡ false
        rest true q = q
        rest false q = refl

        less : (rows == most_streamed) ≡ false → rows + 1 ≤ most_streamed
        less other = grind (arith, nat_tests)

    settles : (query look : Bool) (r : Result ℕ Kind) → asked_settle {n = n} query look r ≡ Ok (Happens event) → ⊥
    settles true look (Ok tick) q = cc q
    settles false true (Ok tick) q = cc q
    settles false false (Ok tick) q = cc q
    settles query look (Err kind) q = cc q

    waits : (r : Result Waited Kind) → asked_until {n = n} r ≡ Ok (Happens event) → ⊥
    waits (Ok until) q = cc q
    waits (Err kind) q = cc q

    settling : (until : Bool) → asked_settling {n = n} until (is_query fields) (is_look fields) (until_of rows before fields) (settle_of before fields) ≡ Ok (Happens event) → ⊥
    settling true q = waits (until_of rows before fields) q
    settling false q = settles (is_query fields) (is_look fields) (settle_of before fields) q

    peeks : (r : Result Peeked Kind) → asked_peek {n = n} r ≡ Ok (Happens event) → ⊥
    peeks (Ok peek) q = cc q
    peeks (Err kind) q = cc q

    awaits : (r : Result Awaited Kind) → asked_any {n = n} r ≡ Ok (Happens event) → ⊥
    awaits (Ok until) q = cc q
    awaits (Err kind) q = cc q

    which : (peek any : Bool) → asked_by {n = n} peek any (peek_of lines before fields) (any_of before fields) (settled_of rows before fields) ≡ Ok (Happens event) → ⊥
    which true any q = peeks (peek_of lines before fields) q
    which false true q = awaits (any_of before fields) q
    which false false q = settling (is_until fields) q

    by : (b : Bool) → is_settle fields ≡ b → (if b then settling_of lines rows before fields else asked_event (event_of n lines before fields)) ≡ Ok (Happens event) → rows + 1 ≤ most_streamed
    by true is q = absurd (which (is_peek fields) (is_any fields) q)
    by false is q = few (is_settle fields) refl is

-- the header
stream-rows : (n lines : ℕ) (bytes text : List ℕ) (rows : List (List (List ℕ))) → strip_bom bytes ≡ text → records_left st.StartRecord text ≡ rows → stream_of n lines bytes ≡ stream_records n lines rows
unfolding stream_of
stream-rows n lines bytes text rows e f = ap (λ (t : List ℕ). stream_records n lines (records_left st.StartRecord t)) e ∙ ap (stream_records n lines) f

front-records : (n lines : ℕ) (bytes text : List ℕ) (rows : List (List (List ℕ))) → strip_bom bytes ≡ text → records_left st.StartRecord text ≡ rows → front_of n lines bytes ≡ front_records n lines rows
unfolding front_of
front-records n lines bytes text rows e f = ap (λ (t : List ℕ). front_records n lines (records_left st.StartRecord t)) e ∙ ap (front_records n lines) f

front-none : (n lines : ℕ) → front_records n lines [] ≡ []
unfolding front_records
front-none n lines = refl

pub front-wrong : (n lines : ℕ) (first : List (List ℕ)) (rows : List (List (List ℕ))) → is_header first ≡ false → front_records n lines (first ∷ rows) ≡ []
unfolding front_records
front-wrong n lines first rows wrong = rw wrong refl

pub front-read : (n lines : ℕ) (first : List (List ℕ)) (rows : List (List (List ℕ))) → is_header first ≡ true → front_records n lines (first ∷ rows) ≡ front_rows n lines 0 0 rows
unfolding front_records
front-read n lines first rows right = rw right refl

header-none : (n lines : ℕ) → stream_records n lines [] ≡ stream_fault_at 0 kind.Header
unfolding stream_records
header-none n lines = refl

pub header-wrong : (n lines : ℕ) (first : List (List ℕ)) (rows : List (List (List ℕ))) → is_header first ≡ false → stream_records n lines (first ∷ rows) ≡ stream_fault_at 0 kind.Header
unfolding stream_records
header-wrong n lines first rows wrong = rw wrong refl

pub header-read : (n lines : ℕ) (first : List (List ℕ)) (rows : List (List (List ℕ))) → is_header first ≡ true → stream_records n lines (first ∷ rows) ≡ stream_rows n lines 0 0 rows
unfolding stream_records
header-read n lines first rows right = rw right refl

-- the beginning of a text, without its mark
abbrev pub Begins : List ℕ → Arrived → Type 0
Begins bytes begun = (more : List ℕ) → Comes begun.ended more → strip_bom (bytes ++ more) ≡ begun.bytes ++ more

stripped : (bytes xs more : List ℕ) (begun : Arrived) (ended : Bool) → Begins bytes begun → StaysEnded begun.ended xs ended → Comes ended more
    → strip_bom ((bytes ++ xs) ++ more) ≡ (begun.bytes ++ xs) ++ more
stripped bytes xs more begun ended begins stays comes =
    rw (append_assoc bytes xs more, append_assoc begun.bytes xs more) (begins (xs ++ more) (comes-back begun.ended ended xs more stays comes))

header-judged : (whole kept : List (List ℕ)) (R : Type 0) → ((kept_fields whole ≡ kept) × R) ⊎ ((length kept ≡ most_fields) × (length (kept_fields whole) ≡ most_fields)) → is_header whole ≡ is_header kept
header-judged whole kept R (inl is) = sym (header-kept whole) ∙ ap is_header is.0
header-judged whole kept R (inr five) = sym (header-kept whole) ∙ five-header (kept_fields whole) five.1 ∙ sym (five-header kept five.0)

header-behind : (whole kept : List (List ℕ)) (rest behind : List (List (List ℕ))) → is_header kept ≡ true
    → ((kept_fields whole ≡ kept) × (rest ≡ behind)) ⊎ ((length kept ≡ most_fields) × (length (kept_fields whole) ≡ most_fields)) → rest ≡ behind
header-behind whole kept rest behind right (inl is) = is.1
header-behind whole kept rest behind right (inr five) =
    let clash : false ≡ true = sym (five-header kept five.0) ∙ right in
    cc clash

pub opens : (lines : ℕ) (bytes xs : List ℕ) (begun : Arrived) (kept : List (List ℕ)) (new : Standing) → Begins bytes begun → StaysEnded begun.ended xs new.arrived.ended
    → FindsKept true st.StartRecord (begun.bytes ++ xs) kept new.state new.arrived → is_header kept ≡ true → new.rows ≡ 0 → new.tick ≡ 0 → new.lines ≡ lines
    → Opens lines (bytes ++ xs) new
unfolding asked_from front_from
opens lines bytes xs begun kept new begins stays h right rows tick is = λ n more comes.
    let found = left-found st.StartRecord new.state (begun.bytes ++ xs) more kept new.arrived h comes in
    let header : is_header found.0 ≡ true = header-judged found.0 kept (found.1 ≡ records_left new.state (new.arrived.bytes ++ more)) found.3 ∙ right in
    let text = stripped bytes xs more begun new.arrived.ended begins stays comes in
    let behind = header-behind found.0 kept found.1 _ right found.3 in (
      stream-rows n lines ((bytes ++ xs) ++ more) _ _ text found.2 ∙ header-read n lines found.0 found.1 header ∙ ap (stream_rows n lines 0 0) behind ∙ rw (rows, tick, is) refl,
      front-records n lines ((bytes ++ xs) ++ more) _ _ text found.2 ∙ front-read n lines found.0 found.1 header ∙ ap (front_rows n lines 0 0) behind ∙ rw (rows, tick, is) refl,
    )

pub opens-wrong : (n lines : ℕ) (bytes xs : List ℕ) (begun : Arrived) (kept : List (List ℕ)) (s : State) (new : Arrived) → Begins bytes begun → StaysEnded begun.ended xs new.ended
    → FindsKept true st.StartRecord (begun.bytes ++ xs) kept s new → is_header kept ≡ false
    → HasFault (stream_of n lines) (bytes ++ xs) (fault.Trace (record { row = 0; kind = kind.Header })) new.ended
    × HasFront (front_of n lines) (bytes ++ xs) [] new.ended
opens-wrong n lines bytes xs begun kept s new begins stays h wrong =
    (λ more comes. (at more comes).0, λ more comes. (at more comes).1)
  where
    at : (more : List ℕ) → Comes new.ended more
        → (stream_of n lines ((bytes ++ xs) ++ more) ≡ Err (fault.Trace (record { row = 0; kind = kind.Header }))) × (front_of n lines ((bytes ++ xs) ++ more) ≡ [])
    at more comes =
        let found = left-found st.StartRecord s (begun.bytes ++ xs) more kept new h comes in
        let header : is_header found.0 ≡ false = header-judged found.0 kept (found.1 ≡ records_left s (new.bytes ++ more)) found.3 ∙ wrong in
        let text = stripped bytes xs more begun new.ended begins stays comes in (
          stream-rows n lines ((bytes ++ xs) ++ more) _ _ text found.2 ∙ header-wrong n lines found.0 found.1 header,
          front-records n lines ((bytes ++ xs) ++ more) _ _ text found.2 ∙ front-wrong n lines found.0 found.1 header,
        )

pub opens-none : (n lines : ℕ) (bytes xs : List ℕ) (begun : Arrived) (kept : List (List ℕ)) (s : State) (new : Arrived) → Begins bytes begun → StaysEnded begun.ended xs new.ended
    → FindsKept false st.StartRecord (begun.bytes ++ xs) kept s new
    → HasFault (stream_of n lines) (bytes ++ xs) (fault.Trace (record { row = 0; kind = kind.Header })) new.ended
    × HasFront (front_of n lines) (bytes ++ xs) [] new.ended
opens-none n lines bytes xs begun kept s new begins stays h = (
  λ more comes. stream-rows n lines ((bytes ++ xs) ++ more) _ [] (stripped bytes xs more begun new.ended begins stays comes) (nothing more comes) ∙ header-none n lines,
  λ more comes. front-records n lines ((bytes ++ xs) ++ more) _ [] (stripped bytes xs more begun new.ended begins stays comes) (nothing more comes) ∙ front-none n lines,
)
  where
    nothing : (more : List ℕ) → Comes new.ended more → records_left st.StartRecord ((begun.bytes ++ xs) ++ more) ≡ []
    nothing more comes =
        let none = left-none st.StartRecord s (begun.bytes ++ xs) kept new h in
        rw (comes h.1) (rw (append-nil (begun.bytes ++ xs)) none)
