-- What was known of a module's rows at the tick to which its banks had come, and what is known of them in the end.
use Rattle.std.proofs.Common.{◌≡◌, ◌≢◌, ℕ, zero, suc, ◌+◌, ◌-◌, ◌<◌, ◌≤◌, Bool, true, false, cond, List, [], ◌∷◌, ◌++◌, length, map, Option, Some, None, inl, inr, refl, sym, ap, subst, ◌∙◌, eq-eqb, arith}
use Rattle.std.{specs.Prelude.{All, IsSomeAnd, filter, slice_get, unwrap_or}, proofs.lemmas.Bool.{cases_eq, cases_lt}, proofs.lemmas.List.{drop_at, map-append}}
use Rattle.std.proofs.{lemmas.List.Elements.{All-head, All-tail, All-nil, All-cons, All-drop, All-filter, All-map, All-weaker, filter-append}, lemmas.Option.slice_get_past}
use Rattle.cell_rows.specs.Device.{ArrayState}
use Rattle.trace_reader.specs.declared.event.Event.{Event}
use Rattle.result_rows.specs.{declared.Outcome.Outcome, declared.Outcome.TheVariants.Unset}
use Rattle.row_rules.specs.{Lines.IsOfLines, Serving.{is_served, may_have, owed}, Table.is_of, declared.Asks.Asks, declared.Asks.TheVariants.{Reads, Writes, Cuts}}
use Rattle.row_rules.specs.declared.Row.{Row}
use Rattle.bank_shape.specs.{declared.BankShape.BankShape, declared.pace.Pace.Pace}
use Rattle.bank_model.specs.{Lawful.Lawful, Timing.TimedEvent, Told.IsWhole}
use Rattle.module_shape.specs.{Addresses.{bank_shape, module_of}, Limits.{IsShape, total_of}, declared.raw.RawShape.RawShape}
use Rattle.module_laws.specs.Asking.{Asked, AreAsked, asked_in, asked_of, row_with}
use Rattle.clock_laws.specs.State.{ClockState}
use Rattle.bank_timing.specs.Extending.{outcome_in}
use Rattle.right_runs.specs.{Banks.{bank_of_line, line_in_bank, pacing_in}, Ends.BankEnd, Runs.RunsRightTo}
use Rattle.run_laws.{specs.Finishing.IsFinishedTo, proofs.Lifting.{each-all, each-passes}, proofs.Mixing.lines_law}
use Rattle.pcm_module.specs.{Asking.{asked_by, asked_for}, Replaying.{Replays, ReplaysIn}, Settling.IsAtTick, State.ModuleState}
use Rattle.row_stream.{specs.Ending.rows_of, proofs.Tables.rows-are}
use Rattle.settle_laws.proofs.Banks.{IsRight, asked-right, known_of, right-so}

-- what holds of two lists holds of the second
pub all-second : {X : Type 0} (P : X → Type 0) (xs ys : List X) → All P (xs ++ ys) → All P ys
all-second P xs ys all = subst (All P) (drop_at xs ys (length xs) refl) (All-drop P (length xs) (xs ++ ys) all)

-- what holds of each row that was asked of each bank holds of each that was asked of the module
module _ {n : ℕ} (home number : ℕ → ℕ) (banks lines : ℕ) (exists : (line : ℕ) → line < lines → home line < banks) (some : 0 < banks) (P : ℕ → Type 0) where
  abbrev Holds : Asked n → Type 0
  Holds a = P a.row

  abbrev own-of : ℕ → List (Asked n) → List (Asked n)
  own-of bank asked = filter (λ (a : Asked n). is_of home bank a.asks) asked

  first-of : (bank : ℕ) (a : Asked n) (rest : List (Asked n)) (own : Bool) → own ≡ true → All Holds (map (asked_in home number) (cond own (a ∷ rest) rest)) → Holds a
  first-of bank a rest true is all = All-head Holds (asked_in home number a) (map (asked_in home number) rest) all
  first-of bank a rest false is all = absurd (cc is)

  rest-of : (bank : ℕ) (a : Asked n) (rest : List (Asked n)) (own : Bool) → All Holds (map (asked_in home number) (cond own (a ∷ rest) rest)) → All Holds (map (asked_in home number) rest)
  rest-of bank a rest true all = All-tail Holds (asked_in home number a) (map (asked_in home number) rest) all
  rest-of bank a rest false all = all

  first-row : (row tick : ℕ) (asks : Asks n) (asked : List (Asked n)) → IsOfLines lines asks
      → ((bank : ℕ) → bank < banks → All Holds (asked_of home number bank (record { row = row; tick = tick; asks = asks } ∷ asked))) → P row
  first-row row tick (Reads line) asked of all =
      first-of (home line) (record { row = row; tick = tick; asks = Reads line }) (own-of (home line) asked) (is_of {n = n} home (home line) (Reads line))
      (eq-eqb (home line) (home line) refl) (all (home line) (exists line of))
  first-row row tick (Writes line bytes given) asked of all =
      first-of (home line) (record { row = row; tick = tick; asks = Writes line bytes given }) (own-of (home line) asked) (is_of {n = n} home (home line) (Writes line bytes given))
      (eq-eqb (home line) (home line) refl) (all (home line) (exists line of))
  first-row row tick Cuts asked of all = first-of 0 (record { row = row; tick = tick; asks = Cuts }) (own-of 0 asked) true refl (all 0 some)

  pub each-row : (asked : List (Asked n)) → All (λ (a : Asked n). IsOfLines lines a.asks) asked → ((bank : ℕ) → bank < banks → All Holds (asked_of home number bank asked)) → All Holds asked
  each-row [] of all = All-nil Holds
  each-row (a ∷ asked) of all =
      All-cons Holds a asked (first-row a.row a.tick a.asks asked (All-head (λ (a : Asked n). IsOfLines lines a.asks) a asked of) all)
      (each-row asked (All-tail (λ (a : Asked n). IsOfLines lines a.asks) a asked of) (λ bank lt. rest-of bank a (own-of bank asked) (is_of home bank a.asks) (all bank lt)))

-- what holds of each row of events holds of the one of a number
pub row-of : {n : ℕ} (P : ℕ → Type 0) (events : List (Event n)) → All (λ a. P a.row) (asked_for events) → (row : ℕ) → 1 ≤ row → row ≤ length events → P row
row-of P [] all row least most = absurd (omega (arith, least, most))
row-of {n = n} P (event ∷ below) all row least most = elim (cases_eq row (length below + 1)) [
  | inl same ↦ subst P (sym same) (All-head (λ (a : Asked n). P a.row) (asked_by (length below + 1) event) (asked_for below) all)
  | inr other ↦ row-of P below (All-tail (λ (a : Asked n). P a.row) (asked_by (length below + 1) event) (asked_for below) all) row least (omega (arith, most, other))
]

module _ {n : ℕ} where
  -- what later events ask, behind earlier ones
  abbrev pub in-front : List (Event n) → List (Event n) → List (Asked n)
  in-front [] events = []
  in-front (event ∷ later) events = asked_by (length (later ++ events) + 1) event ∷ in-front later events

  pub front-asked : (later events : List (Event n)) → asked_for (later ++ events) ≡ in-front later events ++ asked_for events
  front-asked [] events = refl
  front-asked (event ∷ later) events = ap (λ (rest : List (Asked n)). asked_by (length (later ++ events) + 1) event ∷ rest) (front-asked later events)

  front-late : (tick : ℕ) (later events : List (Event n)) → All (λ (event : Event n). tick ≤ event.tick) later → All (λ (a : Asked n). tick ≤ a.tick) (in-front later events)
  front-late tick [] events late = All-nil (λ (a : Asked n). tick ≤ a.tick)
  front-late tick (event ∷ later) events late =
      All-cons (λ (a : Asked n). tick ≤ a.tick) (asked_by (length (later ++ events) + 1) event) (in-front later events)
      (All-head (λ (event : Event n). tick ≤ event.tick) event later late)
      (front-late tick later events (All-tail (λ (event : Event n). tick ≤ event.tick) event later late))

  module _ (home number : ℕ → ℕ) (bank : ℕ) where
    pub own-both : (xs ys : List (Asked n)) → asked_of home number bank (xs ++ ys) ≡ asked_of home number bank xs ++ asked_of home number bank ys
    own-both xs ys =
        ap (map (asked_in home number)) (filter-append (λ (a : Asked n). is_of home bank a.asks) xs ys)
        ∙ map-append (asked_in home number) (filter (λ (a : Asked n). is_of home bank a.asks) xs) (filter (λ (a : Asked n). is_of home bank a.asks) ys)

    -- what holds of the ticks of all holds of those of a bank's
    own-ticks : (P : ℕ → Type 0) (asked : List (Asked n)) → All (λ (a : Asked n). P a.tick) asked → All (λ (a : Asked n). P a.tick) (asked_of home number bank asked)
    own-ticks P asked all =
        All-map (λ (a : Asked n). P a.tick) (asked_in home number) (filter (λ (a : Asked n). is_of home bank a.asks) asked)
        (All-filter (λ (a : Asked n). is_of home bank a.asks) (λ (a : Asked n). P a.tick) asked all)

-- histories of a module's banks, which asked for these rows, and the outcomes that they gave, in the end or so far
pub record Goes {n m : ℕ} (e : ℕ) (over : Bool) (raw : RawShape) (seed : ℕ) (whole : ℕ → List (TimedEvent n m)) (trace : List (Asked n)) (outcome : ℕ → Outcome n) : Type 0 where
  pub lawful : (bank : ℕ) → bank < raw.banks → Lawful (bank_shape (module_of raw) bank) (pacing_in raw) e (whole bank)
  pub uncancelled : (bank : ℕ) → bank < raw.banks → IsWhole (whole bank)
  pub asked : (bank : ℕ) → bank < raw.banks → AreAsked (whole bank) (asked_of (bank_of_line raw seed) (line_in_bank raw seed) bank trace)
  pub recorded : (bank : ℕ) → bank < raw.banks
      → All (λ (a : Asked n). outcome a.row ≡ known_of over (bank_shape (module_of raw) bank) (whole bank) a a.asks) (asked_of (bank_of_line raw seed) (line_in_bank raw seed) bank trace)

-- in the end
pub goes-finished : {n m e : ℕ} (raw : RawShape) (seed : ℕ) (off : Bool) (whole : ℕ → List (TimedEvent n m)) (trace : List (Asked n)) (banks : ℕ → ClockState n m e)
    (array : ArrayState n m) (outcome : ℕ → Outcome n)
    → IsFinishedTo raw seed off whole trace banks array outcome → Goes e true raw seed whole trace outcome
goes-finished {e = e} raw seed off whole trace banks array outcome end = record {
  lawful = λ bank exists.
      subst (λ (p : Pace). Lawful (bank_shape (module_of raw) bank) p e (whole bank)) (end.paces bank exists)
      (subst (λ (s : BankShape). Lawful s (banks bank).pace e (whole bank)) (end.shapes bank exists) (end.leads bank exists).lawful);
  uncancelled = λ bank exists. (end.leads bank exists).told.whole;
  asked = end.asked;
  recorded = end.recorded;
}

-- and so far
module _ {n m e : ℕ} (h : ℕ → List (TimedEvent n m)) (trace : List (Asked n)) (module_ : ModuleState n m e) (array : ArrayState n m) (results : List (Outcome n))
    (had : Replays h trace module_ array results) where
  abbrev IsIn : ℕ → ClockState n m e → Type 0
  IsIn bank clock = ReplaysIn module_ bank (h bank) trace array results clock

  -- what follows of whatever clock it is that stands there
  of-clock : (P : Type 0) (bank : ℕ) → ((clock : ClockState n m e) → IsIn bank clock → P) → IsSomeAnd (slice_get module_.banks bank) (IsIn bank) → P
  of-clock P bank so = by (slice_get module_.banks bank)
    where
      by : (o : Option (ClockState n m e)) → IsSomeAnd o (IsIn bank) → P
      by None there = absurd there
      by (Some clock) there = so clock there

  pub goes-so-far : Goes e false module_.shape module_.seed h trace (outcome_in results)
  goes-so-far = record {
    lawful = λ bank exists.
        of-clock (Lawful (bank_shape (module_of module_.shape) bank) (pacing_in module_.shape) e (h bank)) bank
        (λ clock is.
        subst (λ (p : Pace). Lawful (bank_shape (module_of module_.shape) bank) p e (h bank)) is.paced
        (subst (λ (s : BankShape). Lawful s clock.pace e (h bank)) is.shaped is.leads.lawful))
        (had.banks bank exists);
    uncancelled = λ bank exists. of-clock (IsWhole (h bank)) bank (λ clock is. is.leads.told.whole) (had.banks bank exists);
    asked = λ bank exists.
        of-clock (AreAsked (h bank) (asked_of (bank_of_line module_.shape module_.seed) (line_in_bank module_.shape module_.seed) bank trace)) bank (λ clock is. is.arrived) (had.banks bank exists);
    recorded = λ bank exists.
        of-clock
        (All (λ (a : Asked n). outcome_in results a.row ≡ known_of false (bank_shape (module_of module_.shape) bank) (h bank) a a.asks)
        (asked_of (bank_of_line module_.shape module_.seed) (line_in_bank module_.shape module_.seed) bank trace))
        bank (λ clock is. is.recorded) (had.banks bank exists);
  }

-- of a module whose banks have come to a tick, the events that are handed in from now on, and what they leave
module _ {n m e : ℕ} (events later : List (Event n)) (h since whole : ℕ → List (TimedEvent n m)) (module_ : ModuleState n m e) (array : ArrayState n m) (results : List (Outcome n))
    (is : IsShape module_.shape) (replays : Replays h (asked_for events) module_ array results) (tick : ℕ) (now : module_.tick ≡ tick)
    (settled : (bank : ℕ) → bank < module_.shape.banks → IsSomeAnd (slice_get module_.banks bank) (IsAtTick tick))
    (parts : (bank : ℕ) → whole bank ≡ since bank ++ h bank) (over : Bool) (outcome : ℕ → Outcome n) (end : Goes e over module_.shape module_.seed whole (asked_for (later ++ events)) outcome)
    (late : All (λ (event : Event n). tick ≤ event.tick) later) where
  abbrev home : ℕ → ℕ
  home = bank_of_line module_.shape module_.seed

  abbrev number : ℕ → ℕ
  number = line_in_bank module_.shape module_.seed

  abbrev own : ℕ → List (Asked n)
  own bank = asked_of home number bank (asked_for events)

  abbrev own-later : ℕ → List (Asked n)
  own-later bank = asked_of home number bank (in-front later events)

  own-all : (bank : ℕ) → asked_of home number bank (asked_for (later ++ events)) ≡ own-later bank ++ own bank
  own-all bank = ap (asked_of home number bank) (front-asked later events) ∙ own-both home number bank (in-front later events) (asked_for events)

  -- what was known of a row then, and what is in the end
  abbrev pub RightRow : ℕ → Type 0
  RightRow row = IsRight tick (outcome_in results row) (outcome row)

  module _ (bank : ℕ) (exists : bank < module_.shape.banks) where
    abbrev shape : BankShape
    shape = bank_shape (module_of module_.shape) bank

    abbrev pace : Pace
    pace = pacing_in module_.shape

    lawful : Lawful shape pace e (since bank ++ h bank)
    lawful = subst (λ (xs : List (TimedEvent n m)). Lawful shape pace e xs) (parts bank) (end.lawful bank exists)

    uncancelled : IsWhole (since bank ++ h bank)
    uncancelled = subst (λ (xs : List (TimedEvent n m)). IsWhole xs) (parts bank) (end.uncancelled bank exists)

    asked-all : AreAsked (since bank ++ h bank) (own-later bank ++ own bank)
    asked-all =
        subst (λ (asked : List (Asked n)). AreAsked (since bank ++ h bank) asked) (own-all bank)
        (subst (λ (xs : List (TimedEvent n m)). AreAsked xs (asked_of home number bank (asked_for (later ++ events)))) (parts bank) (end.asked bank exists))

    -- a row has the outcome of a history
    abbrev Recorded : List (TimedEvent n m) → Asked n → Type 0
    Recorded xs a = outcome a.row ≡ known_of over shape xs a a.asks

    recorded-own : All (Recorded (since bank ++ h bank)) (own bank)
    recorded-own =
        all-second (Recorded (since bank ++ h bank)) (own-later bank) (own bank)
        (subst (λ (asked : List (Asked n)). All (Recorded (since bank ++ h bank)) asked) (own-all bank)
        (subst (λ (xs : List (TimedEvent n m)). All (Recorded xs) (asked_of home number bank (asked_for (later ++ events)))) (parts bank) (end.recorded bank exists)))

    in-bank : (clock : ClockState n m e) → ReplaysIn module_ bank (h bank) (asked_for events) array results clock → clock.tick ≡ tick → All (λ (a : Asked n). RightRow a.row) (own bank)
    in-bank clock had at =
        All-weaker (λ (a : Asked n). IsRight clock.tick (outcome_in results a.row) (outcome a.row)) (λ (a : Asked n). RightRow a.row)
        (λ a right. right-so clock.tick tick (outcome_in results a.row) (outcome a.row) (outcome_in results a.row) (outcome a.row) at refl refl right) (own bank)
        (asked-right shape pace module_.tick module_.rows_below (h bank) (own bank) array results clock had is.some_read_ticks is.some_iter_ticks (since bank) (own-later bank) outcome
        lawful uncancelled asked-all over recorded-own
        (own-ticks home number bank (λ t. clock.tick ≤ t) (in-front later events)
        (subst (λ (t : ℕ). All (λ (a : Asked n). t ≤ a.tick) (in-front later events)) (sym at) (front-late tick later events late)))
        (own-ticks home number bank (λ t. t ≤ clock.tick) (asked_for events) (subst (λ (t : ℕ). All (λ (a : Asked n). a.tick ≤ t) (asked_for events)) (now ∙ sym at) replays.in_time)))

    of-bank : All (λ (a : Asked n). RightRow a.row) (own bank)
    of-bank = by (slice_get module_.banks bank) (replays.banks bank exists) (settled bank exists)
      where
        by : (o : Option (ClockState n m e)) → IsSomeAnd o (ReplaysIn module_ bank (h bank) (asked_for events) array results) → IsSomeAnd o (IsAtTick tick)
            → All (λ (a : Asked n). RightRow a.row) (own bank)
        by None had at = absurd had
        by (Some clock) had at = in-bank clock had at

  -- of each row that was handed in
  pub rows-right : (row : ℕ) → 1 ≤ row → row ≤ length events → RightRow row
  rows-right row least most =
      row-of RightRow events
      (each-row home number module_.shape.banks (total_of module_.shape) (λ line lt. (lines_law module_.shape module_.seed is).exists line lt) (omega (arith, is.some_banks)) RightRow
      (asked_for events) replays.exist
      (λ bank exists. of-bank bank exists)) row least most

module _ {n : ℕ} where
  -- no row of a right run is without an outcome
  unset-not : (tick : ℕ) (asks : Asks n) (newest : List ℕ) (outcome : Outcome n) → outcome ≡ Unset → may_have tick asks newest outcome ≡ true → ⊥
  unset-not tick (Reads line) newest outcome is may = let no : false ≡ true = subst (λ (o : Outcome n). may_have tick (Reads line) newest o ≡ true) is may in cc no
  unset-not tick (Writes line bytes given) newest outcome is may = let no : false ≡ true = subst (λ (o : Outcome n). may_have tick (Writes line bytes given) newest o ≡ true) is may in cc no
  unset-not tick Cuts newest outcome is may = let no : false ≡ true = subst (λ (o : Outcome n). may_have tick Cuts newest o ≡ true) is may in cc no

  abbrev IsSet : Row n → Type 0
  IsSet r = r.outcome ≢ Unset

  module _ (outcomes : List (Outcome n)) where
    set-asked : (asked : List (Asked n)) → All IsSet (map (row_with (outcome_in outcomes)) asked) → All (λ (a : Asked n). outcome_in outcomes a.row ≢ Unset) asked
    set-asked [] all = All-nil (λ (a : Asked n). outcome_in outcomes a.row ≢ Unset)
    set-asked (a ∷ asked) all =
        All-cons (λ (a : Asked n). outcome_in outcomes a.row ≢ Unset) a asked (All-head IsSet (row_with (outcome_in outcomes) a) (map (row_with (outcome_in outcomes)) asked) all)
        (set-asked asked (All-tail IsSet (row_with (outcome_in outcomes) a) (map (row_with (outcome_in outcomes)) asked) all))

    pub rows-set : {m : ℕ} (e : ℕ) (raw : RawShape) (seed : ℕ) (off : Bool) (events : List (Event n)) (array : ArrayState n m) (ends : ℕ → BankEnd) → length outcomes ≡ length events
        → RunsRightTo e raw seed off (rows_of events outcomes) array ends → (row : ℕ) → 1 ≤ row → row ≤ length events → outcome_in outcomes row ≢ Unset
    rows-set e raw seed off events array ends size right =
        row-of (λ row. outcome_in outcomes row ≢ Unset) events
        (set-asked (asked_for events) (subst (All IsSet) (sym (rows-are events outcomes size))
        (each-all (λ before r. IsSet r) IsSet (λ before r set. set) (rows_of events outcomes)
        (each-passes (λ before r. IsSet r) is_served (λ before r after passes is. unset-not r.tick r.asks (owed before r.asks) r.outcome is passes) (rows_of events outcomes) [] right.serves.served))))

  past : (results : List (Outcome n)) (row : ℕ) → length results ≤ row - 1 → outcome_in results row ≡ Unset
  past results row low = ap (λ (o : Option (Outcome n)). unwrap_or o Unset) (slice_get_past results (row - 1) low)

  -- what holds of each row of a table, and of any without an outcome, holds of every number
  pub each-place : (results : List (Outcome n)) (outcome : ℕ → Outcome n) (Q : Outcome n → Outcome n → Type 0) → outcome 0 ≡ outcome 1 → ((o : Outcome n) → Q Unset o)
      → ((row : ℕ) → 1 ≤ row → row ≤ length results → Q (outcome_in results row) (outcome row)) → (row : ℕ) → Q (outcome_in results row) (outcome row)
  each-place results outcome Q first none each zero = elim (cases_lt 0 (length results)) [
    | inl some ↦ subst (λ (o : Outcome n). Q (outcome_in results 0) o) (sym first) (each 1 (omega arith) (omega (arith, some)))
    | inr empty ↦ subst (λ (o : Outcome n). Q o (outcome 0)) (sym (past results 0 (omega (arith, empty)))) (none (outcome 0))
  ]
  each-place results outcome Q first none each (suc row) = elim (cases_lt (length results) (suc row)) [
    | inl behind ↦ subst (λ (o : Outcome n). Q o (outcome (suc row))) (sym (past results (suc row) (omega (arith, behind)))) (none (outcome (suc row)))
    | inr within ↦ each (suc row) (omega arith) within
  ]
