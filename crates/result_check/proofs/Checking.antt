-- What may be checked is a table.
use Rattle.std.proofs.Common.{◌≡◌, ℕ, ◌&&◌, true, List, [], ◌∷◌, length, refl, ap, ◌∙◌, arith}
use Rattle.std.{specs.Prelude.All, proofs.lemmas.Bool.{le-leb, lt-ltb}, proofs.lemmas.List.length-replicate, proofs.lemmas.List.Elements.{All-tail, All-cons}}
use Rattle.trace_reader.specs.{Events.{AreEventsFor, IsOpFor}, declared.event.Event.Event, declared.event.EventOp.EventOp}
use Rattle.trace_reader.{specs.declared.event.EventOp.TheVariants.{Read, Write, Mask, Cut}, proofs.Lawful.lawful-first}
use Rattle.masked_bytes.proofs.Queueing.{some_same}
use Rattle.result_rows.specs.declared.Outcome.{Outcome}
use Rattle.result_rows.specs.declared.Outcome.TheVariants as out
use Rattle.row_rules.specs.{Rows.{asks_write, given_of}, declared.Row.Row, declared.Rules.Rules}
use Rattle.trace_rows.{specs.Rows.{rows_with, asks_of, row_of}, proofs.Lines.of-lines}
use Rattle.check_judging.specs.{Keys.reach, Rising.rising, Runs.GivesSized}
use Rattle.check_verdict.specs.Fitting.{is_brief, all_brief}
use Rattle.result_check.{specs.Checkable.{IsTimed, IsCheckable}, specs.Tables.{IsTable, IsRowOf}, proofs.Finding.rows_length}

op_sized : {n : ℕ} (lines : ℕ) (op : EventOp n) → IsOpFor lines op → asks_write (asks_of op) ≡ true → length (given_of (asks_of op)) ≡ n
op_sized lines (Read line) h is = absurd (cc)
op_sized {n} lines (Write line bytes) h is = length-replicate n true
op_sized lines (Mask line bytes given) h is = h.1.given_len
op_sized lines Cut h is = absurd (cc)

timed_brief : {n : ℕ} (o : Outcome n) → IsTimed o → is_brief o ≡ true
timed_brief out.Unset h = refl
timed_brief (out.Stored u place) h = let e = some_same u h.tick h.at in let s = h.short in lt-ltb u reach (omega (arith, e, s))
timed_brief (out.Merged u) h = let e = some_same u h.tick h.at in let s = h.short in lt-ltb u reach (omega (arith, e, s))
timed_brief (out.Queued u) h = let e = some_same u h.tick h.at in let s = h.short in lt-ltb u reach (omega (arith, e, s))
timed_brief (out.Full u) h = let e = some_same u h.tick h.at in let s = h.short in lt-ltb u reach (omega (arith, e, s))
timed_brief (out.Worn u) h = let e = some_same u h.tick h.at in let s = h.short in lt-ltb u reach (omega (arith, e, s))
timed_brief (out.Read u place bytes) h = let e = some_same u h.tick h.at in let s = h.short in lt-ltb u reach (omega (arith, e, s))
timed_brief (out.Forwarded u bytes) h = let e = some_same u h.tick h.at in let s = h.short in lt-ltb u reach (omega (arith, e, s))
timed_brief (out.Busy u) h = let e = some_same u h.tick h.at in let s = h.short in lt-ltb u reach (omega (arith, e, s))
timed_brief (out.Lost u) h = let e = some_same u h.tick h.at in let s = h.short in lt-ltb u reach (omega (arith, e, s))
timed_brief (out.Cut u) h = let e = some_same u h.tick h.at in let s = h.short in lt-ltb u reach (omega (arith, e, s))

rises_from : {n : ℕ} (lines before : ℕ) (events : List (Event n)) (outcomes : List (Outcome n)) → AreEventsFor lines before events → rising before (rows_with events outcomes) ≡ true
rises_from lines before [] outcomes h = refl
rises_from lines before (e ∷ events) [] h = refl
rises_from lines before (e ∷ events) (o ∷ outcomes) h =
    let f = lawful-first lines before e events h in
    ap (λ b. b && rising e.tick (rows_with events outcomes)) (le-leb before e.tick f.0.rises) ∙ rises_from lines e.tick events outcomes f.1

brief_all : {n : ℕ} (events : List (Event n)) (outcomes : List (Outcome n)) → All (λ o. IsTimed o) outcomes → all_brief (rows_with events outcomes) ≡ true
brief_all [] outcomes h = refl
brief_all (e ∷ events) [] h = refl
brief_all {n} (e ∷ events) (o ∷ outcomes) h =
    ap (λ b. b && all_brief (rows_with events outcomes)) (timed_brief o (h 0 o (omega arith))) ∙ brief_all events outcomes (All-tail (λ (x : Outcome n). IsTimed x) o outcomes h)

sized_all : {n : ℕ} (lines before : ℕ) (events : List (Event n)) (outcomes : List (Outcome n)) → AreEventsFor lines before events → All (λ r. GivesSized r) (rows_with events outcomes)
sized_all lines before [] outcomes h = λ i d lt. absurd (omega (arith, lt))
sized_all lines before (e ∷ events) [] h = λ i d lt. absurd (omega (arith, lt))
sized_all {n} lines before (e ∷ events) (o ∷ outcomes) h =
    let f = lawful-first lines before e events h in
    All-cons (λ (r : Row n). GivesSized r) (row_of e o) (rows_with events outcomes) (op_sized lines e.op f.0.op) (sized_all lines e.tick events outcomes f.1)

each_all : {n : ℕ} (lines before : ℕ) (events : List (Event n)) (outcomes : List (Outcome n)) → AreEventsFor lines before events → All (λ r. IsRowOf lines r) (rows_with events outcomes)
each_all lines before [] outcomes h = λ i d lt. absurd (omega (arith, lt))
each_all lines before (e ∷ events) [] h = λ i d lt. absurd (omega (arith, lt))
each_all {n} lines before (e ∷ events) (o ∷ outcomes) h =
    let f = lawful-first lines before e events h in
    let late = f.0.in_time in
    All-cons (λ (r : Row n). IsRowOf lines r) (row_of e o) (rows_with events outcomes) (record { line = of-lines lines e.op f.0.op; reached = omega (arith, late) }) (each_all lines e.tick events outcomes f.1)

pub table_of : {n : ℕ} (events : List (Event n)) (outcomes : List (Outcome n)) (banks : List ℕ) (rules : Rules) → IsCheckable events outcomes banks rules → IsTable (length banks) (rows_with events outcomes)
table_of events outcomes banks rules h = record {
  rises = rises_from (length banks) 0 events outcomes h.lawful;
  brief = brief_all events outcomes h.timed;
  sized = sized_all (length banks) 0 events outcomes h.lawful;
  each = each_all (length banks) 0 events outcomes h.lawful;
  few = let a = rows_length events outcomes h.rows in let b = h.few in omega (arith, a, b);
}
