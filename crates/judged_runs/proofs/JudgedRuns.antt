-- The text of a trace and of the results that a right run of it printed is judged ok.
use Rattle.std.proofs.Common.{◌≡◌, ℕ, zero, suc, ◌+◌, ◌*◌, ◌<◌, ◌≤◌, inl, inr, List, [], ◌∷◌, ◌++◌, length, take, drop, Some, refl, sym, ap, ◌∙◌, subst, arith, rules}
use Rattle.std.{specs.Prelude.{reverse, Ok, slice_get}, proofs.lemmas.Bool.cases_lt, proofs.lemmas.List.{drop_at, length-append, length-map, reverse-reverse, take_at}}
use Rattle.cell_rows.specs.Device.{ArrayState}
use Rattle.csv.specs.Reading.{default_config, records, strip_bom}
use Rattle.trace_reader.specs.{Events.{AreEventsFor, IsOpFor}, Trace.{most_rows, trace_of}, declared.event.Event.Event, declared.event.EventOp.EventOp}
use Rattle.trace_reader.{specs.declared.event.EventOp.TheVariants.{Read, Write, Mask, Cut}, proofs.Lawful.trace_of-lawful}
use Rattle.result_rows.{specs.RowText.{header_text, row_text}, specs.declared.Op.Op, specs.declared.Outcome.Outcome, proofs.RowLemmas.length-row_text-le}
use Rattle.check_reader.specs.{ReadOnce.{AreAsks, IsReadOnce, ReadOnceLaw}, ResultRows.{AreResults, EachMayStand}, Splitting.{BeginResultsAt, BeginsWithHeader}}
use Rattle.check_reader.specs.declared.fault.ResultFault.TheVariants as reading
use Rattle.run_text.specs.ResultText.{asked, named_line, results_text, rows_text}
use Rattle.right_runs.specs.{Banks.{rules_in, banks_of}, Ends.BankEnd}
use Rattle.module_shape.specs.{Limits.{IsShape, IsSmall, small_limits, total_of}, declared.raw.RawShape.RawShape}
use Rattle.row_rules.specs.declared.Row.{Row}
use Rattle.run_laws.specs.RowsOfRuns.{FewArrayLinesLaw, OwnOutcomesLaw, PlacesExistLaw}
use Rattle.check_verdict.specs.{Verdicts.{RowsOk, verdict_of}, declared.Verdict.Verdict, declared.Verdict.TheVariants.Yes}
use Rattle.trace_rows.specs.Rows.{rows_with}
use Rattle.check_laws.specs.{Ticks.SoonLaw, Verdicts.{RulesKeptLaw, YesLaw}}
use Rattle.check_text.specs.{Checked.{HasTrace, HasVerdict, IsResultsFault, IsTextFault, IsTraceFault, ask_of, asks_in, verdict_on}, PrintedLaw.PrintedLaw, SplitLaw.SplitLaw}
use Rattle.check_text.{specs.declared.fault.TextFault.TextFault, proofs.Plain.{AllGiveBytes, records-ok}}
use Rattle.check_text.specs.declared.fault.TextFault.TheVariants as fault
use Rattle.judged_runs.{specs.JudgedRuns.{IsJudgedOk, IsRunOf, JudgedRunsLaw, MayStandLaw, ShortLaw}, proofs.Standing.{exist, may_stand}}

-- results begin at one byte
begins-once : (bytes : List ℕ) (one other : ℕ) → BeginResultsAt bytes one → BeginResultsAt bytes other → one ≡ other
begins-once bytes one other is also =
    elim (cases_lt one other) [
      | inl before ↦ absurd (never one other is also before)
      | inr up ↦ elim (cases_lt other one) [
        | inl behind ↦ absurd (never other one also is behind)
        | inr down ↦ omega (arith, up, down)
      ]
    ]
  where
    never : (at later : ℕ) → BeginResultsAt bytes at → BeginResultsAt bytes later → at < later → ⊥
    never at later is also before =
        elim (is.header) [
          | inl end ↦ omega (arith, end, also.within, before)
          | inr header ↦ also.first at before header
        ]

-- the lines of rows have numbers of 32 bits
named-below : {n : ℕ} (lines : ℕ) (op : EventOp n) → 1 ≤ lines → IsOpFor lines op → named_line op < lines
named-below lines (Read line) some for = for
named-below lines (Write line bytes) some for = for.0
named-below lines (Mask line bytes given) some for = for.0
named-below lines Cut some for = omega (arith, some)

asks-below : {n : ℕ} (lines before : ℕ) (events : List (Event n)) (i : ℕ) (ask : Op × ℕ) → 1 ≤ lines → AreEventsFor lines before events → slice_get (asks_in events) i ≡ Some ask → ask.1 < lines
unfolding AreEventsFor
asks-below lines before [] i ask some for at = cc at
asks-below lines before (event ∷ events) zero ask some for at =
    let same : ask_of event.op ≡ ask = cc at in
    subst (λ (line : ℕ). line < lines) (ap (λ (ask : Op × ℕ). ask.1) same) (named-below lines event.op some for.0.op)
asks-below lines before (event ∷ events) (suc i) ask some for at = asks-below lines event.tick events i ask some for.1 at

length-asks : {n : ℕ} (events : List (Event n)) → length (asks_in events) ≡ length events
length-asks events = length-map events (λ event. ask_of event.op)

are-asks : {n : ℕ} (lines : ℕ) (events : List (Event n)) → 1 ≤ lines → lines ≤ small_limits.total → AreEventsFor lines 0 events → length events ≤ most_rows → AreAsks (asks_in events)
are-asks lines events some few for rows = record {
  few = omega (arith, length-asks events, rows);
  lines = λ i ask at. omega (arith, asks-below lines 0 events i ask some for at, few);
}

pub some-lines : (raw : RawShape) → IsShape raw → 1 ≤ total_of raw
some-lines raw is = some_product raw.banks raw.regions raw.lines is.some_banks is.some_regions (omega (arith, is.some_lines))
  where
    some_product : (a b c : ℕ) → 1 ≤ a → 1 ≤ b → 1 ≤ c → 1 ≤ a * b * c
    some_product a b c x y z = search rules

-- printed results begin with their header
header-first : {n : ℕ} (events : List (Event n)) (outcomes : List (Outcome n)) → BeginsWithHeader (results_text events outcomes)
unfolding results_text
header-first events outcomes = (10 ∷ rows_text 1 events outcomes, refl, inr (rows_text 1 events outcomes, refl))

module _ (n e : ℕ) (raw : RawShape) (seed : ℕ) (trace : List ℕ) (events : List (Event n)) (outcomes : List (Outcome n))
    (some : 1 ≤ n) (is : IsShape raw) (small : IsSmall raw) (reads : trace_of n (total_of raw) trace ≡ Ok events)
    (begins : BeginResultsAt (trace ++ results_text events outcomes) (length trace))
    (results : AreResults (asks_in events) (results_text events outcomes) outcomes) (yes : verdict_on e raw seed events outcomes ≡ Yes) (once : ReadOnceLaw) where
  abbrev whole : List ℕ
  whole = trace ++ results_text events outcomes

  front : take (length trace) whole ≡ trace
  front = take_at trace (results_text events outcomes) (length trace) refl

  behind : drop (length trace) whole ≡ results_text events outcomes
  behind = drop_at trace (results_text events outcomes) (length trace) refl

  lawful : AreEventsFor (total_of raw) 0 events × (length events ≤ most_rows)
  lawful = trace_of-lawful n (total_of raw) trace events (some-lines raw is) reads

  read-once : IsReadOnce n (asks_in events) (results_text events outcomes)
  read-once = once n (asks_in events) (results_text events outcomes) some (are-asks (total_of raw) events (some-lines raw is) small.few_in_all lawful.0 lawful.1)

  has : HasVerdict n e raw seed whole Yes
  has = record {
    at = length trace;
    events = events;
    trace = record { begins = begins; trace = ap (trace_of n (total_of raw)) front ∙ reads };
    outcomes = outcomes;
    results = subst (λ (text : List ℕ). AreResults (asks_in events) text outcomes) (sym behind) results;
    is = sym yes;
  }

  -- what a text has before its results, and behind where they begin
  at-end : (at : ℕ) → BeginResultsAt whole at → at ≡ length trace
  at-end at there = begins-once whole at (length trace) there begins

  own-front : (at : ℕ) → BeginResultsAt whole at → take at whole ≡ trace
  own-front at there = ap (λ (n : ℕ). take n whole) (at-end at there) ∙ front

  own-behind : (at : ℕ) → BeginResultsAt whole at → drop at whole ≡ results_text events outcomes
  own-behind at there = ap (λ (n : ℕ). drop n whole) (at-end at there) ∙ behind

  own-events : (at : ℕ) (others : List (Event n)) → HasTrace n raw whole at others → others ≡ events
  own-events at others has =
      let two : Ok others ≡ Ok events = sym has.trace ∙ ap (trace_of n (total_of raw)) (own-front at has.begins) ∙ reads in
      cc

  only : (verdict : Verdict) → HasVerdict n e raw seed whole verdict → verdict ≡ Yes
  only verdict other =
      let same : other.events ≡ events = own-events other.at other.events other.trace in
      let read : AreResults (asks_in events) (results_text events outcomes) other.outcomes =
      subst (λ (text : List ℕ). AreResults (asks_in events) text other.outcomes) (own-behind other.at other.trace.begins)
      (subst (λ (events : List (Event n)). AreResults (asks_in events) (drop other.at whole) other.outcomes) same other.results) in
      other.is
      ∙ ap (λ (events : List (Event n)). verdict_on e raw seed events other.outcomes) same
      ∙ ap (verdict_on e raw seed events) (read-once.results other.outcomes outcomes read results)
      ∙ yes

  faultless : (one : TextFault) → IsTextFault n raw whole one → one ≡ fault.NoMemory
  faultless one (inl front) = by one (subst (λ (text : List ℕ). IsTraceFault (trace_of n (total_of raw) text) one) (own-front front.0 front.1) front.2)
    where
      by : (one : TextFault) → IsTraceFault (trace_of n (total_of raw) trace) one → one ≡ fault.NoMemory
      by (fault.Trace f) bad = cc (sym reads ∙ bad)
      by fault.TooMany bad = cc (sym reads ∙ bad)
      by (fault.Results row) bad = absurd bad
      by fault.NoMemory bad = refl
  faultless one (inr back) =
      by one
      (subst (λ (text : List ℕ). IsResultsFault n (asks_in events) text one) (own-behind back.0 back.2.begins)
      (subst (λ (events : List (Event n)). IsResultsFault n (asks_in events) (drop back.0 whole) one) (own-events back.0 back.1 back.2) back.3))
    where
      by : (one : TextFault) → IsResultsFault n (asks_in events) (results_text events outcomes) one → one ≡ fault.NoMemory
      by (fault.Trace f) bad = absurd bad
      by fault.TooMany bad = absurd bad
      by (fault.Results row) bad = absurd (read-once.apart outcomes (reading.Row row) results bad)
      by fault.NoMemory bad = refl

  judged : IsJudgedOk n e raw seed whole
  judged = record { has = has; only = only; faultless = faultless }

-- what the events of a trace give are bytes
gives-bytes : (n lines : ℕ) (trace : List ℕ) (events : List (Event n)) → trace_of n lines trace ≡ Ok events → AllGiveBytes events
unfolding trace_of
gives-bytes n lines trace events is = (records-ok n lines (records default_config (strip_bom trace)) events is).1

-- the rows of a right run keep the rules, as they come
rules-kept : RulesKeptLaw → {n m : ℕ} (e : ℕ) (raw : RawShape) (seed : ℕ) (trace : List ℕ) (events : List (Event n)) (outcomes : List (Outcome n)) (array : ArrayState n m) (ends : ℕ → BankEnd)
    → IsRunOf e raw seed trace events outcomes array ends → RowsOk (rules_in e raw 0) (banks_of raw seed) (rows_with events outcomes)
rules-kept kept {n} {m} e raw seed trace events outcomes array ends run =
    let all : List (Row n) = rows_with events outcomes in
    let lawful = trace_of-lawful n (total_of raw) trace events (some-lines raw run.shape) run.reads in
    subst (λ (rs : List (Row n)). RowsOk (rules_in e raw 0) (banks_of raw seed) rs) (reverse-reverse all)
    (kept n m e raw seed (reverse all) array ends run.shape (exist raw events outcomes lawful.0) run.right)

-- so the verdict on them is Yes
verdict-is : YesLaw → {n m : ℕ} (e : ℕ) (raw : RawShape) (seed : ℕ) (trace : List ℕ) (events : List (Event n)) (outcomes : List (Outcome n)) (array : ArrayState n m) (ends : ℕ → BankEnd)
    → IsRunOf e raw seed trace events outcomes array ends → verdict_on e raw seed events outcomes ≡ Yes
verdict-is law {n} {m} e raw seed trace events outcomes array ends run =
    let all : List (Row n) = rows_with events outcomes in
    let lawful = trace_of-lawful n (total_of raw) trace events (some-lines raw run.shape) run.reads in
    subst (λ (rs : List (Row n)). verdict_of (rules_in e raw 0) (banks_of raw seed) rs ≡ Yes) (reverse-reverse all)
    (law n m e raw seed (reverse all) array ends run.shape (exist raw events outcomes lawful.0) run.right)

pub may_stand_law : OwnOutcomesLaw → PlacesExistLaw → FewArrayLinesLaw → SoonLaw → RulesKeptLaw → MayStandLaw
may_stand_law owned places few soon kept n m e raw seed trace events outcomes array ends run =
    let lawful = trace_of-lawful n (total_of raw) trace events (some-lines raw run.shape) run.reads in
    may_stand e raw seed events outcomes array ends owned places few soon (banks_of raw seed) run.shape run.small run.few lawful.0 lawful.1
    (gives-bytes n (total_of raw) trace events run.reads) run.one_each run.right (rules-kept kept e raw seed trace events outcomes array ends run)

-- the rows of results, from a number on
rows-short : {n : ℕ} (lines before row : ℕ) (events : List (Event n)) (outcomes : List (Outcome n)) → 1 ≤ lines → lines ≤ small_limits.total → AreEventsFor lines before events
    → row + length events ≤ 400001 → EachMayStand (asks_in events) outcomes → length (rows_text row events outcomes) ≤ length events * (64 + 2 * n)
unfolding AreEventsFor EachMayStand rows_text
rows-short lines before row [] outcomes some few for within may = omega arith
rows-short lines before row (event ∷ events) [] some few for within may = absurd may
rows-short {n = n} lines before row (event ∷ events) (outcome ∷ outcomes) some few for within may =
    let below = named-below lines event.op some for.0.op in
    let here : length (row_text row (asked event.op) (named_line event.op) outcome) ≤ 64 + 2 * n =
    length-row_text-le row (asked event.op) (named_line event.op) outcome (omega (arith, within)) (omega (arith, below, few))
    (λ tick at. let short = may.0.tick tick at in omega (arith, short)) may.0.place (λ bytes at. let size = (may.0.bytes bytes at).0 in omega (arith, size)) in
    let rest = rows-short lines event.tick (row + 1) events outcomes some few for.1 (omega (arith, within)) may.1 in
    omega (arith, here, rest, length-append (row_text row (asked event.op) (named_line event.op) outcome) (rows_text (row + 1) events outcomes), one-more (length events) (64 + 2 * n))
  where
    one-more : (a b : ℕ) → suc a * b ≡ b + a * b
    one-more a b = grind (arith)

pub short_law : MayStandLaw → ShortLaw
unfolding results_text
short_law may n m e raw seed trace events outcomes array ends run =
    let lawful = trace_of-lawful n (total_of raw) trace events (some-lines raw run.shape) run.reads in
    let rows = rows-short (total_of raw) 0 1 events outcomes (some-lines raw run.shape) run.small.few_in_all lawful.0 (omega (arith, lawful.1)) (may n m e raw seed trace events outcomes array ends run) in
    omega (arith, rows, length-append header_text (rows_text 1 events outcomes))

pub judged_runs_law : YesLaw → MayStandLaw → SplitLaw → PrintedLaw → ReadOnceLaw → JudgedRunsLaw
judged_runs_law law may split printed once n m e raw seed trace events outcomes array ends some run ended =
    judged n e raw seed trace events outcomes some run.shape run.small run.reads
    (split n (total_of raw) trace (results_text events outcomes) events run.reads ended (header-first events outcomes))
    (printed n events outcomes (may n m e raw seed trace events outcomes array ends run))
    (verdict-is law e raw seed trace events outcomes array ends run) once
