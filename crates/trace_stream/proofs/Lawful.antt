-- What a row asks has a line of the module, and a tick that is none of the earlier ones.
use Rattle.std.proofs.Common.{◌≡◌, ℕ, ◌<◌, ◌≤◌, ◌-◌, ◌==◌, List, length, not, Bool, true, false, Option, Some, None, refl, arith, nat_lt}
use Rattle.std.{specs.Prelude.{if◌then◌else◌, Result, Ok, Err}, proofs.lemmas.Bool.Decides.nat_tests}
use Rattle.trace_reader.specs.{Number.number_of, Rows.{event_of, latest_tick, line_digits, line_of, or_fault, text_at, tick_of}, declared.event.Event.Event, declared.fault.Kind.Kind}
use Rattle.trace_reader.proofs.{Lawful.{event_of-lawful, or_fault-ok}, Numbers.number_within}
use Rattle.trace_reader.specs.declared.fault.Kind.TheVariants as kind
use Rattle.trace_stream.specs.Asked.{IsAskedFor, IsUnreached, NamesRow, any_of, asked_any, asked_by, asked_event, asked_of, asked_peek, asked_settle, asked_settling, asked_until, from_one, is_any, is_look, is_peek}
use Rattle.trace_stream.specs.{Asked.{is_query, is_settle, is_until, peek_of, row_of, settle_of, settled_of, settling_of, until_of}, declared.asked.Asked.Asked}
use Rattle.trace_stream.specs.{declared.asked.Asked.TheVariants.{Happens, Settle, Query, Look, Peek, Until, UntilAny}, declared.asked.Peek.Peek as Peeked, declared.asked.Until.Until as Waited}
use Rattle.trace_stream.specs.declared.asked.UntilAny.{UntilAny as Awaited}

pub settle-lawful : (before tick : ℕ) (fields : List (List ℕ)) → settle_of before fields ≡ Ok tick → (before ≤ tick) × (tick ≤ latest_tick)
unfolding settle_of
settle-lawful before tick fields h =
    let a = or_fault-ok (tick_of (text_at fields 0)) kind.Tick _ tick h in
    by a.0 a.1 (nat_lt a.0 before) refl (not (length (text_at fields 2) == 0)) (not (length (text_at fields 3) == 0)) a.2
  where
    by : (found : ℕ) → tick_of (text_at fields 0) ≡ Some found → (early : Bool) → nat_lt found before ≡ early → (line payload : Bool)
        → (if early then Err kind.Order else if line then Err kind.Line else if payload then Err kind.Payload else Ok found) ≡ Ok tick → (before ≤ tick) × (tick ≤ latest_tick)
    by found is true e line payload q = cc q
    by found is false e true payload q = cc q
    by found is false e false true q = cc q
    by found is false e false false q =
        let same : found ≡ tick = cc in
        let within = number_within 13 latest_tick found (text_at fields 0) is in
        let rises : before ≤ found = grind (arith, nat_tests) in
        (rw same at rises, rw same at within)

-- the number of a row is that of one of so many
row-within : (rows : ℕ) (text : List ℕ) (row : ℕ) → row_of rows text ≡ Some row → (1 ≤ row) × (row ≤ rows)
row-within rows text row h = by (number_of 10 rows text) refl h
  where
    some : (found : ℕ) → number_of 10 rows text ≡ Some found → (none : Bool) → (found == 0) ≡ none → (if none then None else Some found) ≡ Some row → (1 ≤ row) × (row ≤ rows)
    some found is true e q = cc q
    some found is false e q =
        let same : found ≡ row = cc in
        let within = number_within 10 rows found text is in
        let least : 1 ≤ found = grind (arith, nat_tests) in
        (rw same at least, rw same at within)

    by : (o : Option ℕ) → number_of 10 rows text ≡ o → from_one o ≡ Some row → (1 ≤ row) × (row ≤ rows)
    by None is q = cc q
    by (Some found) is q = some found is (found == 0) refl q

-- a settle until goes no further than its tick, which is none of the earlier ones, and hasn't gone on yet
pub until-lawful : (rows before : ℕ) (until : Waited) (fields : List (List ℕ)) → until_of rows before fields ≡ Ok until
    → (before ≤ until.limit) × (until.limit ≤ latest_tick) × (until.reached ≡ before) × (1 ≤ until.row) × (until.row ≤ rows)
unfolding until_of
until-lawful rows before until fields h =
    let a = or_fault-ok (tick_of (text_at fields 0)) kind.Tick _ until h in
    by a.0 a.1 (nat_lt a.0 before) refl a.2
  where
    Is : Type 0
    Is = (before ≤ until.limit) × (until.limit ≤ latest_tick) × (until.reached ≡ before) × (1 ≤ until.row) × (until.row ≤ rows)

    at : (found : ℕ) → tick_of (text_at fields 0) ≡ Some found → nat_lt found before ≡ false → (row : ℕ) → (1 ≤ row) × (row ≤ rows) → (payload : Bool)
        → (if payload then Err kind.Payload else Ok (record { row = row; limit = found; reached = before })) ≡ Ok until → Is
    at found is e row named true q = cc q
    at found is e row named false q =
        let same : record { row = row; limit = found; reached = before } ≡ until = cc in
        let within = number_within 13 latest_tick found (text_at fields 0) is in
        let rises : before ≤ found = grind (arith, nat_tests) in
        rw (← same) (rises, within, refl, named.0, named.1)

    by : (found : ℕ) → tick_of (text_at fields 0) ≡ Some found → (early : Bool) → nat_lt found before ≡ early
        → (if early then Err kind.Order else or_fault (row_of rows (text_at fields 2)) kind.Line (λ row.
        if not (length (text_at fields 3) == 0) then Err kind.Payload else Ok (record { row = row; limit = found; reached = before }))) ≡ Ok until → Is
    by found is true e q = cc q
    by found is false e q =
        let b = or_fault-ok (row_of rows (text_at fields 2)) kind.Line _ until q in
        at found is e b.0 (row-within rows (text_at fields 2) b.0 b.1) (not (length (text_at fields 3) == 0)) b.2

-- one that names no row goes so far, too
pub any-lawful : (before : ℕ) (until : Awaited) (fields : List (List ℕ)) → any_of before fields ≡ Ok until → (before ≤ until.limit) × (until.limit ≤ latest_tick) × (until.reached ≡ before)
unfolding any_of
any-lawful before until fields h =
    let a = or_fault-ok (tick_of (text_at fields 0)) kind.Tick _ until h in
    by a.0 a.1 (nat_lt a.0 before) refl (not (length (text_at fields 3) == 0)) a.2
  where
    by : (found : ℕ) → tick_of (text_at fields 0) ≡ Some found → (early : Bool) → nat_lt found before ≡ early → (payload : Bool)
        → (if early then Err kind.Order else if payload then Err kind.Payload else Ok (record { limit = found; reached = before })) ≡ Ok until
        → (before ≤ until.limit) × (until.limit ≤ latest_tick) × (until.reached ≡ before)
    by found is true e payload q = cc q
    by found is false e true q = cc q
    by found is false e false q =
        let same : record { limit = found; reached = before } ≡ until = cc in
        let within = number_within 13 latest_tick found (text_at fields 0) is in
        let rises : before ≤ found = grind (arith, nat_tests) in
        rw (← same) (rises, within, refl)

-- a peek has a tick that is none of the earlier ones, and its line is read as one of so many
pub peek-rises : (lines before : ℕ) (peek : Peeked) (fields : List (List ℕ)) → peek_of lines before fields ≡ Ok peek
    → (before ≤ peek.tick) × (peek.tick ≤ latest_tick) × (line_of lines (text_at fields 2) ≡ Some peek.line)
unfolding peek_of
peek-rises lines before peek fields h =
    let a = or_fault-ok (tick_of (text_at fields 0)) kind.Tick _ peek h in
    by a.0 a.1 (nat_lt a.0 before) refl a.2
  where
    Is : Type 0
    Is = (before ≤ peek.tick) × (peek.tick ≤ latest_tick) × (line_of lines (text_at fields 2) ≡ Some peek.line)

    at : (found : ℕ) → tick_of (text_at fields 0) ≡ Some found → nat_lt found before ≡ false → (line : ℕ) → line_of lines (text_at fields 2) ≡ Some line → (payload : Bool)
        → (if payload then Ok (record { tick = found; line = line }) else Err kind.Payload) ≡ Ok peek → Is
    at found is e line read false q = cc q
    at found is e line read true q =
        let same : record { tick = found; line = line } ≡ peek = cc in
        let within = number_within 13 latest_tick found (text_at fields 0) is in
        let rises : before ≤ found = grind (arith, nat_tests) in
        rw (← same) (rises, within, read)

    by : (found : ℕ) → tick_of (text_at fields 0) ≡ Some found → (early : Bool) → nat_lt found before ≡ early
        → (if early then Err kind.Order else or_fault (line_of lines (text_at fields 2)) kind.Line (λ line.
        if length (text_at fields 3) == 0 then Ok (record { tick = found; line = line }) else Err kind.Payload)) ≡ Ok peek → Is
    by found is true e q = cc q
    by found is false e q =
        let b = or_fault-ok (line_of lines (text_at fields 2)) kind.Line _ peek q in
        at found is e b.0 b.1 (length (text_at fields 3) == 0) b.2

-- and so its line is one
pub peek-lawful : (lines before : ℕ) (peek : Peeked) (fields : List (List ℕ)) → 1 ≤ lines → peek_of lines before fields ≡ Ok peek
    → (before ≤ peek.tick) × (peek.tick ≤ latest_tick) × (peek.line < lines)
peek-lawful lines before peek fields some h =
    let is = peek-rises lines before peek fields h in
    let within = number_within (line_digits lines) (lines - 1) peek.line (text_at fields 2) is.2 in
    (is.0, is.1, omega (arith, within, some))

-- what holds of each event, of each tick, of each peek and of each settle until that a record may ask holds of what it asks
module _ (n lines rows before : ℕ) (fields : List (List ℕ)) (P : Asked n → Type 0)
    (events : (event : Event n) → event_of n lines before fields ≡ Ok event → P (Happens event))
    (ticks : (tick : ℕ) → settle_of before fields ≡ Ok tick → P (Settle tick) × P (Query tick) × P (Look tick))
    (waits : (until : Waited) → until_of rows before fields ≡ Ok until → P (Until until))
    (awaits : (until : Awaited) → any_of before fields ≡ Ok until → P (UntilAny until))
    (peeks : (peek : Peeked) → peek_of lines before fields ≡ Ok peek → P (Peek peek)) where
  asked-so : (asked : Asked n) → asked_of n lines rows before fields ≡ Ok asked → P asked
  unfolding asked_of
  asked-so asked h = by (is_settle fields) h
    where
      settles : (query look : Bool) (r : Result ℕ Kind) → settle_of before fields ≡ r → asked_settle query look r ≡ Ok asked → P asked
      settles true look (Ok tick) e q =
          let same : Query tick ≡ asked = cc in
          rw (← same) (ticks tick e).1
      settles false true (Ok tick) e q =
          let same : Look tick ≡ asked = cc in
          rw (← same) (ticks tick e).2
      settles false false (Ok tick) e q =
          let same : Settle tick ≡ asked = cc in
          rw (← same) (ticks tick e).0
      settles query look (Err kind) e q = cc q

      until : (r : Result Waited Kind) → until_of rows before fields ≡ r → asked_until r ≡ Ok asked → P asked
      until (Ok found) e q =
          let same : Until found ≡ asked = cc in
          rw (← same) (waits found e)
      until (Err kind) e q = cc q

      happens : (r : Result (Event n) Kind) → event_of n lines before fields ≡ r → asked_event r ≡ Ok asked → P asked
      happens (Ok event) e q =
          let same : Happens event ≡ asked = cc in
          rw (← same) (events event e)
      happens (Err kind) e q = cc q

      settling : (b : Bool) → asked_settling b (is_query fields) (is_look fields) (until_of rows before fields) (settle_of before fields) ≡ Ok asked → P asked
      settling true q = until (until_of rows before fields) refl q
      settling false q = settles (is_query fields) (is_look fields) (settle_of before fields) refl q

      any : (r : Result Awaited Kind) → any_of before fields ≡ r → asked_any r ≡ Ok asked → P asked
      any (Ok found) e q =
          let same : UntilAny found ≡ asked = cc in
          rw (← same) (awaits found e)
      any (Err kind) e q = cc q

      peek : (r : Result Peeked Kind) → peek_of lines before fields ≡ r → asked_peek r ≡ Ok asked → P asked
      peek (Ok found) e q =
          let same : Peek found ≡ asked = cc in
          rw (← same) (peeks found e)
      peek (Err kind) e q = cc q

      which : (b c : Bool) → asked_by b c (peek_of lines before fields) (any_of before fields) (settled_of rows before fields) ≡ Ok asked → P asked
      which true c q = peek (peek_of lines before fields) refl q
      which false true q = any (any_of before fields) refl q
      which false false q = settling (is_until fields) q

      by : (b : Bool) → (if b then settling_of lines rows before fields else asked_event (event_of n lines before fields)) ≡ Ok asked → P asked
      by true q = which (is_peek fields) (is_any fields) q
      by false q = happens (event_of n lines before fields) refl q

pub asked-lawful : (n lines rows before : ℕ) (fields : List (List ℕ)) (asked : Asked n) → 1 ≤ lines → asked_of n lines rows before fields ≡ Ok asked → IsAskedFor lines before asked
asked-lawful n lines rows before fields asked some h =
    asked-so n lines rows before fields (IsAskedFor lines before) (λ event e. event_of-lawful n lines before fields event some e)
    (λ tick e. (let is = settle-lawful before tick fields e in (is, is, is))) (λ until e. (let is = until-lawful rows before until fields e in (is.0, is.1)))
    (λ until e. (let is = any-lawful before until fields e in (is.0, is.1))) (λ peek e. peek-lawful lines before peek fields some e) asked h

pub asked-waits : (n lines rows before : ℕ) (fields : List (List ℕ)) (asked : Asked n) → asked_of n lines rows before fields ≡ Ok asked → NamesRow rows asked × IsUnreached before asked
asked-waits n lines rows before fields asked h =
    asked-so n lines rows before fields (λ asked. NamesRow rows asked × IsUnreached before asked) (λ event e. (tt, tt)) (λ tick e. ((tt, tt), (tt, tt), (tt, tt)))
    (λ until e. (let is = until-lawful rows before until fields e in ((is.3, is.4), is.2))) (λ until e. (tt, (any-lawful before until fields e).2)) (λ peek e. (tt, tt)) asked h
