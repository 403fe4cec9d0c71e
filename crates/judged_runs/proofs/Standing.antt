-- The outcomes of a right run may stand in results.
use Rattle.std.proofs.Common.{◌≡◌, ℕ, suc, ◌+◌, ◌*◌, ◌^◌, ◌<◌, ◌≤◌, ◌==◌, ◌&&◌, Bool, true, false, inl, inr, List, [], ◌∷◌, ◌++◌, length, replicate, Some, refl, sym, ap, ◌∙◌, subst, cond, arith, eqb-true, lit<}
use Rattle.std.{specs.Option.ForSome, specs.Prelude.{All, if◌then◌else◌, reverse}, proofs.lemmas.Bool.cases_lt}
use Rattle.std.proofs.lemmas.List.{get_or-replicate, get_or_past, length-replicate, reverse-append, reverse-reverse}
use Rattle.std.proofs.{lemmas.List.Elements.{All-nil, All-cons, All-head, All-tail, All-weaker}, lemmas.Nat.mul-le}
use Rattle.masked_bytes.{specs.Masked.laid, proofs.Layering.length-laid, proofs.Truth.{and_first, and_second}}
use Rattle.hex.specs.Hex.{IsBytes}
use Rattle.cell_rows.specs.Device.{ArrayState}
use Rattle.bank_shape.specs.{declared.pace.Policy.Policy, declared.pace.Policy.TheVariants.{Pause, Plain, Cancel}}
use Rattle.trace_reader.specs.{Events.AreEventsFor, Rows.latest_tick, Trace.most_rows, declared.event.Event.Event, declared.event.EventOp.EventOp}
use Rattle.trace_reader.specs.declared.event.EventOp.TheVariants.{Read, Write, Mask, Cut}
use Rattle.result_rows.specs.{Outcomes.{bytes_of, op_of, place_of, tick_of}, declared.Outcome.Outcome}
use Rattle.result_rows.specs.declared.Outcome.TheVariants as out
use Rattle.check_reader.specs.ResultRows.{AreBytes, EachMayStand}
use Rattle.row_rules.specs.{Answers.accepts, Lines.IsOfLines, Rows.{each_row, newest, op_asked}, Serving.{is_served, may_have, owed, same_bytes}}
use Rattle.row_rules.specs.{Ticking.{attempt, tries, writings}, declared.Asks.Asks, declared.Asks.TheVariants.{Reads, Writes, Cuts}, declared.Row.Row, declared.Rules.Rules}
use Rattle.check_verdict.specs.Verdicts.{RowsOk}
use Rattle.trace_rows.{specs.Rows.{rows_with, row_of, asks_of}, proofs.Lines.lines-exist}
use Rattle.module_shape.specs.{Addresses.{array_lines_of, module_of}, Limits.{IsShape, IsSmall, total_of}, declared.raw.RawShape.RawShape}
use Rattle.right_runs.specs.{Banks.rules_in, Ends.BankEnd, Runs.RunsRight}
use Rattle.run_laws.specs.RowsOfRuns.{FewArrayLinesLaw, LinesExist, OwnOutcomesLaw, PlacesExistLaw}
use Rattle.check_laws.{specs.Ticks.{SoonLaw, longest_among}, proofs.Soon.All-reverse}
use Rattle.check_text.{specs.Checked.asks_in, proofs.Asked.own-op, proofs.Plain.{AllGiveBytes, GivesBytes, IsBytes-cons}}

-- ---- bytes

laid-bytes : (bytes : List ℕ) (given : List Bool) (under : List ℕ) → IsBytes bytes → IsBytes under → IsBytes (laid bytes given under)
laid-bytes [] given under h k = k
laid-bytes (b ∷ bytes) [] under h k = k
laid-bytes (b ∷ bytes) (g ∷ given) [] h k = k
laid-bytes (b ∷ bytes) (g ∷ given) (u ∷ under) h k =
    IsBytes-cons (if g then b else u) (laid bytes given under) (by g) (laid-bytes bytes given under (λ i. h (suc i)) (λ i. k (suc i)))
  where
    by : (g : Bool) → (if g then b else u) < 256
    by true = h 0
    by false = k 0

zeros-bytes : (n : ℕ) → AreBytes n (replicate n 0)
zeros-bytes n = (length-replicate {A = ℕ} n 0, small)
  where
    small : IsBytes (replicate n 0)
    small i =
        elim (cases_lt i n) [
          | inl within ↦ subst (λ (b : ℕ). b < 256) (sym (get_or-replicate {A = ℕ} n i 0 0 within)) (lit< tt)
          | inr past ↦ subst (λ (b : ℕ). b < 256) (sym (get_or_past (replicate {A = ℕ} n 0) i 0 (omega (arith, past, length-replicate {A = ℕ} n 0)))) (lit< tt)
        ]

same-bytes : (xs ys : List ℕ) → same_bytes xs ys ≡ true → xs ≡ ys
same-bytes [] [] h = refl
same-bytes [] (y ∷ ys) h = cc h
same-bytes (x ∷ xs) [] h = cc h
same-bytes (x ∷ xs) (y ∷ ys) h = ap (λ (b : ℕ). b ∷ xs) (eqb-true x y (and_first _ _ h)) ∙ ap (λ (rest : List ℕ). y ∷ rest) (same-bytes xs ys (and_second (x == y) _ h))

module _ {n : ℕ} where
  -- each write gives n bytes
  abbrev Gives : Asks n → Type 0
  Gives (Reads line) = Unit {0}
  Gives (Writes line bytes given) = AreBytes n bytes
  Gives Cuts = Unit {0}

  abbrev AllGive : List (Row n) → Type 0
  AllGive [] = Unit {0}
  AllGive (r ∷ before) = Gives r.asks × AllGive before

  AllGive-append : (some others : List (Row n)) → AllGive some → AllGive others → AllGive (some ++ others)
  AllGive-append [] others h k = k
  AllGive-append (r ∷ some) others h k = (h.0, AllGive-append some others h.1 k)

  AllGive-reverse : (some : List (Row n)) → AllGive some → AllGive (reverse some)
  AllGive-reverse [] h = tt
  AllGive-reverse (r ∷ some) h =
      subst AllGive (sym (reverse-append (r ∷ []) some)) (AllGive-append (reverse some) (r ∷ []) (AllGive-reverse some h.1) (h.0, tt))

  -- so the newest bytes of a line are n bytes
  newest-bytes : (before : List (Row n)) (line : ℕ) → AllGive before → AreBytes n (newest before line)
  newest-bytes [] line all = zeros-bytes n
  newest-bytes (r ∷ before) line all = by r.asks all.0 (newest-bytes before line all.1)
    where
      laid-over : (b : Bool) (bytes : List ℕ) (given : List Bool) → AreBytes n bytes → AreBytes n (newest before line)
          → AreBytes n (cond b (laid bytes given (newest before line)) (newest before line))
      laid-over true bytes given here ih = (length-laid bytes given (newest before line) ∙ ih.0, laid-bytes bytes given (newest before line) here.1 ih.1)
      laid-over false bytes given here ih = ih

      by : (asks : Asks n) → Gives asks → AreBytes n (newest before line) → AreBytes n (newest (record { tick = r.tick; asks = asks; outcome = r.outcome } ∷ before) line)
      by (Reads at) here ih = ih
      by (Writes at bytes given) here ih = laid-over ((at == line) && accepts r.outcome) bytes given here ih
      by Cuts here ih = ih

  abbrev HasBytes : Row n → Type 0
  HasBytes r = ForSome (bytes_of r.outcome) (AreBytes n)

  -- an answered read has them
  answered : (before : List (Row n)) (tick : ℕ) (asks : Asks n) (o : Outcome n) → AllGive before → may_have tick asks (owed before asks) o ≡ true → ForSome (bytes_of o) (AreBytes n)
  answered before tick (Reads line) (out.Read at place bytes) all h =
      λ some is. let same : bytes ≡ some = cc in
      subst (AreBytes n) (sym (same-bytes bytes (newest before line) h) ∙ same) (newest-bytes before line all)
  answered before tick (Reads line) (out.Forwarded at bytes) all h =
      λ some is. let same : bytes ≡ some = cc in
      subst (AreBytes n) (sym (same-bytes bytes (newest before line) (and_second (at == tick) _ h)) ∙ same) (newest-bytes before line all)
  answered before tick (Writes line given some) (out.Read at place bytes) all h = absurd (cc h)
  answered before tick (Writes line given some) (out.Forwarded at bytes) all h = absurd (cc h)
  answered before tick Cuts (out.Read at place bytes) all h = absurd (cc h)
  answered before tick Cuts (out.Forwarded at bytes) all h = absurd (cc h)
  answered before tick asks _ all h = λ some is. absurd (cc is)

  served-bytes : (before after : List (Row n)) → AllGive before → each_row is_served before after ≡ true → All HasBytes before
  served-bytes [] after all h = All-nil HasBytes
  served-bytes (r ∷ before) after all h =
      All-cons HasBytes r before (answered before r.tick r.asks r.outcome all.1 (and_first _ _ h)) (served-bytes before (r ∷ after) all.1 (and_second (is_served before r after) _ h))

-- ---- the rows of events

module _ {n : ℕ} where
  gives : (op : EventOp n) → GivesBytes op → Gives (asks_of op)
  gives (Read line) h = tt
  gives (Write line bytes) h = h
  gives (Mask line bytes given) h = h.0
  gives Cut h = tt

  all-give : (events : List (Event n)) (outcomes : List (Outcome n)) → AllGiveBytes events → AllGive (rows_with events outcomes)
  all-give [] outcomes h = tt
  all-give (event ∷ events) [] h = tt
  all-give (event ∷ events) (outcome ∷ outcomes) h = (gives event.op h.0, all-give events outcomes h.1)

  -- no tick is above the latest
  ticks-early : (lines before : ℕ) (events : List (Event n)) (outcomes : List (Outcome n)) → AreEventsFor lines before events → All (λ r. r.tick ≤ latest_tick) (rows_with events outcomes)
  unfolding AreEventsFor
  ticks-early lines before [] outcomes h = All-nil (λ (r : Row n). r.tick ≤ latest_tick)
  ticks-early lines before (event ∷ events) [] h = All-nil (λ (r : Row n). r.tick ≤ latest_tick)
  ticks-early lines before (event ∷ events) (outcome ∷ outcomes) h =
      All-cons (λ (r : Row n). r.tick ≤ latest_tick) (row_of event outcome) (rows_with events outcomes)
      h.0.in_time (ticks-early lines event.tick events outcomes h.1)

  rows-few : (events : List (Event n)) (outcomes : List (Outcome n)) → length (rows_with events outcomes) ≤ length events
  rows-few [] outcomes = omega arith
  rows-few (event ∷ events) [] = omega arith
  rows-few (event ∷ events) (outcome ∷ outcomes) = omega (arith, rows-few events outcomes)

  -- ---- what a row of results may have

  abbrev IsOwn : Row n → Type 0
  IsOwn r = op_of r.outcome ≡ Some (op_asked r.asks)

  abbrev IsShort : Row n → Type 0
  IsShort r = ForSome (tick_of r.outcome) (λ tick. tick < 10 ^ 15)

  abbrev IsPlaced : Row n → Type 0
  IsPlaced r = ForSome (place_of r.outcome) (λ place. place ≤ 98831)

  each-may : (events : List (Event n)) (outcomes : List (Outcome n)) → length outcomes ≡ length events → All IsOwn (rows_with events outcomes) → All IsShort (rows_with events outcomes)
      → All IsPlaced (rows_with events outcomes) → All HasBytes (rows_with events outcomes) → EachMayStand (asks_in events) outcomes
  unfolding EachMayStand
  each-may [] [] size own short placed bytes = tt
  each-may [] (outcome ∷ outcomes) size own short placed bytes = absurd (omega (arith, size))
  each-may (event ∷ events) [] size own short placed bytes = absurd (omega (arith, size))
  each-may (event ∷ events) (outcome ∷ outcomes) size own short placed bytes =
      let r : Row n = row_of event outcome in
      let rest : List (Row n) = rows_with events outcomes in (
        record {
          belongs = All-head IsOwn r rest own ∙ ap Some (own-op event.op);
          tick = All-head IsShort r rest short;
          place = All-head IsPlaced r rest placed;
          bytes = All-head HasBytes r rest bytes;
        },
        each-may events outcomes (omega (arith, size)) (All-tail IsOwn r rest own) (All-tail IsShort r rest short) (All-tail IsPlaced r rest placed) (All-tail HasBytes r rest bytes),
      )

-- ---- ticks of at most 15 digits

twice-few : (b : Bool) → writings b ≤ 2
twice-few true = omega arith
twice-few false = omega arith

tries-few : (policy : Policy) → tries policy ≤ 5
tries-few Pause = omega arith
tries-few Plain = omega arith
tries-few Cancel = omega arith

-- the numbers of a module's rules are small
short-time : (rules : Rules) (count : ℕ) → rules.read_ticks ≤ 255 → rules.iter_ticks ≤ 255 → rules.steps ≤ 208 → rules.spares ≤ 1024 → count ≤ 400000
    → latest_tick + longest_among rules count < 10 ^ 15
short-time rules count read iter steps spares few =
    let one : attempt rules ≤ 53295 = omega (arith, read, mul-le rules.steps rules.iter_ticks 208 255 steps iter) in
    let all : tries rules.policy * attempt rules ≤ 266475 = omega (arith, mul-le (tries rules.policy) (attempt rules) 5 53295 (tries-few rules.policy) one) in
    let changes : writings rules.twice * (2 * count + rules.spares) ≤ 2 * 801024 = mul-le (writings rules.twice) (2 * count + rules.spares) 2 801024 (twice-few rules.twice) (omega (arith, few, spares)) in
    let works : tries rules.policy * attempt rules * (writings rules.twice * (2 * count + rules.spares) + count) ≤ 266475 * 2002048 =
    mul-le (tries rules.policy * attempt rules) (writings rules.twice * (2 * count + rules.spares) + count) 266475 2002048 all (omega (arith, changes, few)) in
    let serves : rules.read_ticks * (2 * count + count) ≤ 255 * 1200000 = mul-le rules.read_ticks (2 * count + count) 255 1200000 read (omega (arith, few)) in
    let waits : (count + 1) * rules.read_ticks ≤ 400001 * 255 = mul-le (count + 1) rules.read_ticks 400001 255 (omega (arith, few)) read in
    omega (arith, one, works, serves, waits, read, iter)

-- the lines of the rows of a trace exist
pub exist : {n : ℕ} (raw : RawShape) (events : List (Event n)) (outcomes : List (Outcome n)) → AreEventsFor (total_of raw) 0 events → LinesExist raw (reverse (rows_with events outcomes))
exist {n} raw events outcomes lawful =
    All-reverse (λ (r : Row n). IsOfLines (total_of raw) r.asks) (rows_with events outcomes) (lines-exist (total_of raw) 0 events outcomes lawful)

module _ {n m : ℕ} (e : ℕ) (raw : RawShape) (seed : ℕ) (events : List (Event n)) (outcomes : List (Outcome n)) (array : ArrayState n m) (ends : ℕ → BankEnd) where
  abbrev all : List (Row n)
  all = rows_with events outcomes

  -- of the rows as they come
  forwards : (P : Row n → Type 0) → All P (reverse all) → All P all
  forwards P h = subst (λ (rs : List (Row n)). All P rs) (reverse-reverse all) (All-reverse P (reverse all) h)

  pub may_stand : OwnOutcomesLaw → PlacesExistLaw → FewArrayLinesLaw → SoonLaw → (banks : List ℕ) → IsShape raw → IsSmall raw → e ≤ 8 → AreEventsFor (total_of raw) 0 events → length events ≤ most_rows
      → AllGiveBytes events → length outcomes ≡ length events → RunsRight e raw seed (reverse all) array ends → RowsOk (rules_in e raw 0) banks all → EachMayStand (asks_in events) outcomes
  may_stand owned places lines soon banks is small few lawful rows give size right ok =
      each-may events outcomes size
      (forwards IsOwn (owned n m e raw seed (reverse all) array ends right))
      (All-weaker (λ (r : Row n). ForSome (tick_of r.outcome) (λ tick. tick ≤ latest_tick + longest_among (rules_in e raw 0) (length all))) IsShort
      (λ r h tick at. let late = h tick at in omega (arith, late, short)) all (soon n (rules_in e raw 0) banks all latest_tick ok (ticks-early (total_of raw) 0 events outcomes lawful)))
      (forwards IsPlaced
      (All-weaker (λ (r : Row n). ForSome (place_of r.outcome) (λ place. place < raw.banks * array_lines_of (module_of raw))) IsPlaced
      (λ r h place at. let below = h place at in omega (arith, below, lines raw is small)) (reverse all) (places n m e raw seed (reverse all) array ends is (exist raw events outcomes lawful) right)))
      (forwards HasBytes (served-bytes (reverse all) [] (AllGive-reverse all (all-give events outcomes give)) right.serves.served))
    where
      short : latest_tick + longest_among (rules_in e raw 0) (length all) < 10 ^ 15
      short =
          short-time (rules_in e raw 0) (length all) is.few_read_ticks is.few_iter_ticks (omega (arith, few)) is.few_spares
          (omega (arith, rows-few events outcomes, rows))
