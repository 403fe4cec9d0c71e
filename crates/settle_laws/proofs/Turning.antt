-- Behind each row a stream has told in turn what became of its rows.
use Rattle.std.proofs.Common.{◌≡◌, ◌≢◌, ◌⊎◌, inl, inr, get_or, ℕ, zero, suc, ◌+◌, ◌<◌, ◌≤◌, ◌==◌, ◌&&◌, ◌||◌, cond, Bool, true, false, List, [], ◌∷◌, ◌++◌, length, map, Option, Some, None, refl, sym, ap, subst, ◌∙◌, append_assoc, arith}
use Rattle.std.{specs.Prelude.{All, IfSome, IsSomeAnd, filter, slice_get, unwrap_or}, proofs.lemmas.Bool.ne_eqb}
use Rattle.std.proofs.lemmas.List.Elements.{All-append, All-cons, All-head, All-nil, All-tail, All-weaker}
use Rattle.trace_reader.specs.declared.event.Event.{Event}
use Rattle.result_rows.specs.{Outcomes.tick_of, declared.Outcome.Outcome}
use Rattle.result_rows.specs.declared.Outcome.TheVariants as out
use Rattle.row_rules.specs.{Answers.{accepts, is_stored, is_worn}, Lines.IsOfLines, Table.is_of}
use Rattle.bank_shape.specs.declared.BankShape.{BankShape}
use Rattle.trace_rows.specs.Rows.{asks_of}
use Rattle.bank_model.specs.{Changes.halted_after, History.has_exhausted, Lawful.Lawful, Timing.{TimedEvent, core, last_tick}}
use Rattle.module_shape.specs.{Addresses.{bank_shape, module_of}, Limits.{IsShape, total_of}, declared.raw.RawShape.RawShape}
use Rattle.module_laws.specs.Asking.{Asked, AreAsked, asked_in, asked_of}
use Rattle.clock_laws.specs.State.{ClockState}
use Rattle.bank_timing.specs.Extending.{outcome_in}
use Rattle.right_runs.specs.Banks.{bank_of_line, line_in_bank, pacing_in}
use Rattle.run_laws.proofs.Mixing.{lines_law}
use Rattle.pcm_module.specs.{Asking.{asked_by, asked_for}, Replaying.ReplaysIn, State.{bank_at, first_bank, stand_now}, Telling.{comes_to, is_asked_of}}
use Rattle.row_printer.specs.{Printing.table_of, declared.told.Mark.TheVariants.{Exhausted, Going, Halted}, declared.told.Told.Told}
use Rattle.row_printer.specs.declared.told.Told.TheVariants.{Bank, Looked, Peeked, Settled}
use Rattle.trace_stream.specs.{Asked.events_in, declared.asked.Asked.Asked as StreamAsked, declared.asked.Asked.TheVariants.{Happens as IsEvent, Settle, Query, Look, Peek, Until, UntilAny}}
use Rattle.row_stream.specs.{Answering.{backlog_of, banks_told, mark_of}, Asking.tick_reached, Looking.wear_of, Serving.{AreKnown, TellsAlong, lines_of}}
use Rattle.settle_laws.specs.{Marks.{AreMarksTrue, EndedMarkLaw, IsTrueMark, MarkLaw}, Turns.{AreInTurn, EndedTurnLaw, TellsInTurn, TurnLaw, comes_in, is_decided, is_in_bank}}
use Rattle.settle_laws.proofs.{Along.events-both, Banks.{IsRight, known_of}, Exhausting.rejected, Halting.{IsHalted, IsOver, halted-now, left-before, left-later, taken-later}}
use Rattle.settle_laws.proofs.Rows.{Goes, all-second, each-place, each-row, front-asked, goes-finished, goes-so-far, in-front, own-both, row-of}
use Rattle.settle_laws.proofs.Turned.{IsTurned, bank-turned, from-before, from-told, of-bank-row}

told-by : {n : ℕ} (early tick : ℕ) (o : Outcome n) → early ≤ tick → IfSome (tick_of o) (λ at. at ≤ early) → IfSome (tick_of o) (λ at. at ≤ tick)
told-by early tick o low told = by (tick_of o) told
  where
    by : (t : Option ℕ) → IfSome t (λ at. at ≤ early) → IfSome t (λ at. at ≤ tick)
    by None told = tt
    by (Some at) told = omega (arith, told, low)

module _ (raw : RawShape) (seed : ℕ) where
  abbrev home : ℕ → ℕ
  home = bank_of_line raw seed

  abbrev number : ℕ → ℕ
  number = line_in_bank raw seed

module _ {n : ℕ} (raw : RawShape) (seed : ℕ) where
  -- a bank that a row makes go on has come to its tick
  reached-low : (row : StreamAsked n) (before : List (StreamAsked n)) (bank tick : ℕ) → comes_in raw seed row bank ≡ true
      → All (λ (a : Asked n). a.tick ≤ tick) (asked_of (home raw seed) (number raw seed) bank (asked_for (events_in (row ∷ before)))) → tick_reached (row ∷ before) ≤ tick
  reached-low (IsEvent event) before bank tick comes all = by (is_of (home raw seed) bank (asks_of event.op)) comes all
    where
      a : Asked n
      a = asked_by (length (events_in before) + 1) event

      rest : List (Asked n)
      rest = filter (λ (b : Asked n). is_of (home raw seed) bank b.asks) (asked_for (events_in before))

      by : (own : Bool) → own ≡ true → All (λ (a : Asked n). a.tick ≤ tick) (map (asked_in (home raw seed) (number raw seed)) (cond own (a ∷ rest) rest)) → event.tick ≤ tick
      by true is all = All-head (λ (a : Asked n). a.tick ≤ tick) (asked_in (home raw seed) (number raw seed) a) (map (asked_in (home raw seed) (number raw seed)) rest) all
      by false is all = absurd (cc is)
  reached-low (Settle at) before bank tick comes all = absurd (cc comes)
  reached-low (Query at) before bank tick comes all = absurd (cc comes)
  reached-low (Look at) before bank tick comes all = absurd (cc comes)
  reached-low (Peek peek) before bank tick comes all = absurd (cc comes)
  reached-low (Until until) before bank tick comes all = absurd (cc comes)
  reached-low (UntilAny until) before bank tick comes all = absurd (cc comes)

all-first : {X : Type 0} (P : X → Type 0) (xs ys : List X) → All P (xs ++ ys) → All P xs
all-first P [] ys all = All-nil P
all-first P (x ∷ xs) ys all = All-cons P x xs (All-head P x (xs ++ ys) all) (all-first P xs ys (All-tail P x (xs ++ ys) all))

marked-exhausted : (exhausted halted : Bool) → mark_of exhausted halted ≡ Exhausted → exhausted ≡ true
marked-exhausted true halted is = refl
marked-exhausted false true is = absurd (cc is)
marked-exhausted false false is = absurd (cc is)

marked-halted : (exhausted halted : Bool) → mark_of exhausted halted ≡ Halted → (exhausted ≡ false) × (halted ≡ true)
marked-halted true halted is = absurd (cc is)
marked-halted false true is = (refl, refl)
marked-halted false false is = absurd (cc is)

marked-over : (exhausted halted : Bool) → mark_of exhausted halted ≢ Going → (exhausted ≡ true) ⊎ (halted ≡ true)
marked-over true halted is = inl refl
marked-over false true is = inr refl
marked-over false false is = absurd (is refl)

module _ {n : ℕ} (home : ℕ → ℕ) (bank : ℕ) where
  -- no event has a number that is greater than how many there are
  no-row : (events : List (Event n)) (k : ℕ) → length events < k → is_asked_of home bank (asked_for events) k ≡ false
  no-row [] k behind = refl
  no-row (event ∷ below) k behind =
      by (comes_to home bank (asks_of event.op)) (length below + 1 == k) (ne_eqb (length below + 1) k (λ is. omega (arith, behind, is))) (no-row below k (omega (arith, behind)))
    where
      by : (comes own : Bool) → own ≡ false → is_asked_of home bank (asked_for below) k ≡ false → ((comes && own) || is_asked_of home bank (asked_for below) k) ≡ false
      by true own none rest = ap (λ b. b || is_asked_of home bank (asked_for below) k) none ∙ rest
      by false own none rest = rest

  -- so a row with such a number is one of the later ones
  front-row : (later events : List (Event n)) (k : ℕ) → length events < k → is_asked_of home bank (asked_for (later ++ events)) k ≡ true → is_asked_of home bank (in-front later events) k ≡ true
  front-row [] events k behind is = absurd (cc (sym (no-row events k behind) ∙ is))
  front-row (event ∷ later) events k behind is =
      by (comes_to home bank (asks_of event.op) && (length (later ++ events) + 1 == k)) (front-row later events k behind) is
    where
      by : (own : Bool) → (is_asked_of home bank (asked_for (later ++ events)) k ≡ true → is_asked_of home bank (in-front later events) k ≡ true)
          → (own || is_asked_of home bank (asked_for (later ++ events)) k) ≡ true → (own || is_asked_of home bank (in-front later events) k) ≡ true
      by true ih is = refl
      by false ih is = ih is

-- of a module behind a row, and the histories that those of its banks go on to
module _ {n m : ℕ} (e : ℕ) (raw : RawShape) (seed : ℕ) (is : IsShape raw) (row : StreamAsked n) (before : List (StreamAsked n)) (h : ℕ → List (TimedEvent n m)) (told : List (Told n))
    (known : AreKnown e raw seed row before h told) (later : List (Event n)) (since whole : ℕ → List (TimedEvent n m)) (parts : (bank : ℕ) → whole bank ≡ since bank ++ h bank)
    (over : Bool) (outcome : ℕ → Outcome n) (first : outcome 0 ≡ outcome 1) (goes : Goes e over raw seed whole (asked_for (later ++ events_in (row ∷ before))) outcome) where
  abbrev events : List (Event n)
  events = events_in (row ∷ before)

  abbrev results : List (Outcome n)
  results = table_of (length events) told

  abbrev own : ℕ → List (Asked n)
  own bank = asked_of (home raw seed) (number raw seed) bank (asked_for events)

  abbrev own-later : ℕ → List (Asked n)
  own-later bank = asked_of (home raw seed) (number raw seed) bank (in-front later events)

  own-all : (bank : ℕ) → asked_of (home raw seed) (number raw seed) bank (asked_for (later ++ events)) ≡ own-later bank ++ own bank
  own-all bank =
      ap (asked_of (home raw seed) (number raw seed) bank) (front-asked later events) ∙ own-both (home raw seed) (number raw seed) bank (in-front later events) (asked_for events)

  then-goes : Goes e false raw seed h (asked_for events) (outcome_in results)
  then-goes =
      subst (λ (k : ℕ). Goes e false raw k h (asked_for events) (outcome_in results)) known.served.seeded
      (subst (λ (r : RawShape). Goes e false r known.module_.seed h (asked_for events) (outcome_in results)) known.served.shape
      (goes-so-far h (asked_for events) known.module_ known.array results known.served.replays))

  turned : (bank : ℕ) → bank < raw.banks → IsTurned (last_tick (h bank)) (outcome_in results) outcome (own bank)
  turned bank exists =
      bank-turned e (bank_shape (module_of raw) bank) (pacing_in raw) (h bank) (since bank) (own bank) over (outcome_in results) outcome is.some_read_ticks is.some_iter_ticks
      (subst (λ (xs : List (TimedEvent n m)). Lawful (bank_shape (module_of raw) bank) (pacing_in raw) e xs) (parts bank) (goes.lawful bank exists))
      (then-goes.asked bank exists) (then-goes.recorded bank exists)
      (all-second (λ (a : Asked n). outcome a.row ≡ known_of over (bank_shape (module_of raw) bank) (since bank ++ h bank) a a.asks) (own-later bank) (own bank)
      (subst (λ (asked : List (Asked n)). All (λ (a : Asked n). outcome a.row ≡ known_of over (bank_shape (module_of raw) bank) (since bank ++ h bank) a a.asks) asked) (own-all bank)
      (subst (λ (xs : List (TimedEvent n m)). All (λ (a : Asked n). outcome a.row ≡ known_of over (bank_shape (module_of raw) bank) xs a a.asks)
      (asked_of (home raw seed) (number raw seed) bank (asked_for (later ++ events)))) (parts bank) (goes.recorded bank exists))))

  -- no bank is past the tick that was reached
  up-to-here : (bank : ℕ) → bank < raw.banks → last_tick (h bank) ≤ tick_reached (row ∷ before)
  up-to-here bank exists =
      by (slice_get known.module_.banks bank) (known.served.replays.banks bank (subst (λ (r : RawShape). bank < r.banks) (sym known.served.shape) exists))
    where
      by : (o : Option (ClockState n m e)) → IsSomeAnd o (ReplaysIn known.module_ bank (h bank) (asked_for events) known.array results) → last_tick (h bank) ≤ tick_reached (row ∷ before)
      by None there = absurd there
      by (Some clock) there = let now : last_tick (h bank) ≤ clock.tick = there.leads.told.now in omega (arith, now, there.in_time, known.tick)

  -- what holds of each row that was asked of each bank holds of each that had come
  of-each : (P : ℕ → Type 0) → ((bank : ℕ) → bank < raw.banks → All (λ (a : Asked n). P a.row) (own bank)) → (k : ℕ) → 1 ≤ k → k ≤ length events → P k
  of-each P all =
      row-of P events
      (each-row (home raw seed) (number raw seed) raw.banks (total_of raw) (λ line lt. (lines_law raw seed is).exists line lt) (omega (arith, is.some_banks)) P (asked_for events)
      (subst (λ (r : RawShape). All (λ (a : Asked n). IsOfLines (total_of r) a.asks) (asked_for events)) known.served.shape known.served.replays.exist) all)

  abbrev Knows : Outcome n → Outcome n → Type 0
  Knows by_then now = IfSome (tick_of by_then) (λ at. at ≤ tick_reached (row ∷ before)) × (by_then ≢ out.Unset → now ≡ by_then)

  each-known : (k : ℕ) → Knows (outcome_in results k) (outcome k)
  each-known =
      each-place results outcome Knows first (λ o. (tt, λ set. absurd (set refl)))
      (λ k least most.
      of-each (λ k. Knows (outcome_in results k) (outcome k))
      (λ bank exists.
      All-weaker (λ (a : Asked n). IsRight (last_tick (h bank)) (outcome_in results a.row) (outcome a.row)) (λ (a : Asked n). Knows (outcome_in results a.row) (outcome a.row))
      (λ a right. (told-by (last_tick (h bank)) (tick_reached (row ∷ before)) (outcome_in results a.row) (up-to-here bank exists) right.told, right.stays)) (own bank) (turned bank exists).right)
      k least (omega (arith, most, known.served.size)))

  -- of a row of a bank
  right-of : (bank : ℕ) → bank < raw.banks → (k : ℕ) → is_in_bank raw seed (row ∷ before) bank k ≡ true → IsRight (last_tick (h bank)) (outcome_in results k) (outcome k)
  right-of bank exists =
      of-bank-row (home raw seed) (number raw seed) bank (λ k. IsRight (last_tick (h bank)) (outcome_in results k) (outcome k)) (asked_for events) (turned bank exists).right

  -- of a bank, and the history that it goes on to
  module _ (bank : ℕ) (exists : bank < raw.banks) where
    abbrev shape : BankShape
    shape = bank_shape (module_of raw) bank

    abbrev all : List (TimedEvent n m)
    all = since bank ++ h bank

    lawful : Lawful shape (pacing_in raw) e all
    lawful = subst (λ (xs : List (TimedEvent n m)). Lawful shape (pacing_in raw) e xs) (parts bank) (goes.lawful bank exists)

    asked : AreAsked all (own-later bank ++ own bank)
    asked =
        subst (λ (asked : List (Asked n)). AreAsked all asked) (own-all bank)
        (subst (λ (xs : List (TimedEvent n m)). AreAsked xs (asked_of (home raw seed) (number raw seed) bank (asked_for (later ++ events)))) (parts bank) (goes.asked bank exists))

    abbrev Recorded : Asked n → Type 0
    Recorded a = outcome a.row ≡ known_of over shape all a a.asks

    recorded : All Recorded (own-later bank ++ own bank)
    recorded =
        subst (λ (asked : List (Asked n)). All Recorded asked) (own-all bank)
        (subst (λ (xs : List (TimedEvent n m)). All (λ (a : Asked n). outcome a.row ≡ known_of over shape xs a a.asks)
        (asked_of (home raw seed) (number raw seed) bank (asked_for (later ++ events)))) (parts bank) (goes.recorded bank exists))

    -- where it was exhausted no write of it is accepted
    no-write : has_exhausted (core (h bank)) ≡ true → (k : ℕ) → length events < k → is_asked_of (home raw seed) bank (asked_for (later ++ events)) k ≡ true → accepts (outcome k) ≡ false
    no-write exhausted k behind is =
        of-bank-row (home raw seed) (number raw seed) bank (λ k. accepts (outcome k) ≡ false) (in-front later events) each k (front-row (home raw seed) bank later events k behind is)
      where
        each : All (λ (a : Asked n). accepts (outcome a.row) ≡ false) (own-later bank)
        each = λ k d below.
            ap accepts (all-first Recorded (own-later bank) (own bank) recorded k d below)
            ∙ rejected shape (pacing_in raw) e (h bank) exhausted all lawful over (since bank) refl (own-later bank) (own bank) asked (then-goes.asked bank exists) k d below

    -- where it had halted and wasn't exhausted no write of it is refused for wear
    no-refusal : IsHalted shape (pacing_in raw) e (h bank) → has_exhausted (core (h bank)) ≡ false → (k : ℕ) → length events < k
        → is_asked_of (home raw seed) bank (asked_for (later ++ events)) k ≡ true → is_worn (outcome k) ≡ false
    no-refusal halted fresh k behind is =
        of-bank-row (home raw seed) (number raw seed) bank (λ k. is_worn (outcome k) ≡ false) (in-front later events) each k (front-row (home raw seed) bank later events k behind is)
      where
        each : All (λ (a : Asked n). is_worn (outcome a.row) ≡ false) (own-later bank)
        each = λ k d below.
            ap is_worn (all-first Recorded (own-later bank) (own bank) recorded k d below)
            ∙ taken-later shape (pacing_in raw) e (h bank) halted fresh all lawful over (since bank) refl (own-later bank) (own bank) asked (then-goes.asked bank exists) k d below

    -- where it was exhausted or had halted nothing of it is stored that had no outcome
    no-store : IsOver shape (pacing_in raw) e (h bank) → (k : ℕ) → is_asked_of (home raw seed) bank (asked_for (later ++ events)) k ≡ true → outcome_in results k ≡ out.Unset → is_stored (outcome k) ≡ false
    no-store is_over =
        of-bank-row (home raw seed) (number raw seed) bank Stays (asked_for (later ++ events))
        (subst (λ (asked : List (Asked n)). All (λ (a : Asked n). Stays a.row) asked) (sym (own-all bank)) (All-append (λ (a : Asked n). Stays a.row) (own-later bank) (own bank) coming had))
      where
        Stays : ℕ → Type 0
        Stays k = outcome_in results k ≡ out.Unset → is_stored (outcome k) ≡ false

        coming : All (λ (a : Asked n). Stays a.row) (own-later bank)
        coming = λ k d below unset.
            ap is_stored (all-first Recorded (own-later bank) (own bank) recorded k d below)
            ∙ left-later shape (pacing_in raw) e (h bank) is_over all lawful over (since bank) refl (own-later bank) (own bank) asked (then-goes.asked bank exists) k d below

        had : All (λ (a : Asked n). Stays a.row) (own bank)
        had = λ k d below unset.
            let a : Asked n = get_or (own bank) k d in
            ap is_stored (all-second Recorded (own-later bank) (own bank) recorded k d below)
            ∙ left-before shape (pacing_in raw) e (h bank) is_over all lawful over (since bank) refl a a.asks (sym (then-goes.recorded bank exists k d below) ∙ unset)

  abbrev IsTrueLine : List (StreamAsked n) → Told n → Type 0
  IsTrueLine whole = IsTrueMark raw seed whole (outcome_in results) outcome (length events)

  -- so the lines that answer the row tell the truth
  bank-line : (whole : List (StreamAsked n)) → later ++ events ≡ events_in whole → (tick bank : ℕ) → bank < known.module_.shape.banks
      → IsTrueLine whole (Bank tick (backlog_of bank (bank_at known.module_ bank)))
  bank-line whole same tick bank there exists = (
    λ marked k is unset. no-store bank exists (over-by (marked-over _ _ marked)) k (of-all k is) unset,
    λ marked k behind is. no-write bank exists (by-exhausted true (marked-exhausted _ _ marked)) k behind (of-all k is),
    λ marked k behind is. let alone = marked-halted _ _ marked in no-refusal bank exists (by-halted alone.1) (by-exhausted false alone.0) k behind (of-all k is),
  )
    where
      of-all : (k : ℕ) → is_in_bank raw seed whole bank k ≡ true → is_asked_of (home raw seed) bank (asked_for (later ++ events)) k ≡ true
      of-all k is = subst (λ (es : List (Event n)). is_asked_of (home raw seed) bank (asked_for es) k ≡ true) (sym same) is

      clock : ClockState n m e
      clock = bank_at known.module_ bank

      exhausted-then : (mark : Bool) (o : Option (ClockState n m e)) → IsSomeAnd o (ReplaysIn known.module_ bank (h bank) (asked_for events) known.array results)
          → (unwrap_or o (first_bank known.module_.shape bank)).bank.kept.exhausted ≡ mark → has_exhausted (core (h bank)) ≡ mark
      exhausted-then mark None in_bank marked = absurd in_bank
      exhausted-then mark (Some clock) in_bank marked = sym in_bank.leads.holds.exhausted ∙ marked

      halted-then : (o : Option (ClockState n m e)) → IsSomeAnd o (ReplaysIn known.module_ bank (h bank) (asked_for events) known.array results)
          → (unwrap_or o (first_bank known.module_.shape bank)).regs.halted ≡ true → halted_after (h bank) ≡ true
      halted-then None in_bank marked = absurd in_bank
      halted-then (Some clock) in_bank marked = sym in_bank.leads.regs.halted ∙ marked

      by-exhausted : (mark : Bool) → clock.bank.kept.exhausted ≡ mark → has_exhausted (core (h bank)) ≡ mark
      by-exhausted mark = exhausted-then mark (slice_get known.module_.banks bank) (known.served.replays.banks bank there)

      by-halted : clock.regs.halted ≡ true → IsHalted (bank_shape (module_of raw) bank) (pacing_in raw) e (h bank)
      by-halted halted =
          halted-now (bank_shape (module_of raw) bank) (pacing_in raw) e (h bank) (then-goes.lawful bank exists)
          (halted-then (slice_get known.module_.banks bank) (known.served.replays.banks bank there) halted)

      over-by : (clock.bank.kept.exhausted ≡ true) ⊎ (clock.regs.halted ≡ true) → IsOver (bank_shape (module_of raw) bank) (pacing_in raw) e (h bank)
      over-by (inl exhausted) = inl (by-exhausted true exhausted)
      over-by (inr halted) = inr (by-halted halted)

  banks-lines : (whole : List (StreamAsked n)) → later ++ events ≡ events_in whole → (tick banks : ℕ) → banks ≤ known.module_.shape.banks
      → All (IsTrueLine whole) (banks_told known.module_ tick banks)
  banks-lines whole same tick zero few = All-nil (IsTrueLine whole)
  banks-lines whole same tick (suc bank) few =
      All-append (IsTrueLine whole) (banks_told known.module_ tick bank) (Bank tick (backlog_of bank (bank_at known.module_ bank)) ∷ [])
      (banks-lines whole same tick bank (omega (arith, few)))
      (All-cons (IsTrueLine whole) (Bank tick (backlog_of bank (bank_at known.module_ bank))) []
      (bank-line whole same tick bank (omega (arith, few))) (All-nil (IsTrueLine whole)))

  pub true-marks : (whole : List (StreamAsked n)) → later ++ events ≡ events_in whole → All (IsTrueLine whole) (lines_of row known.module_ known.array)
  true-marks whole same = by row
    where
      by : (row : StreamAsked n) → All (IsTrueLine whole) (lines_of row known.module_ known.array)
      by (IsEvent event) = All-nil (IsTrueLine whole)
      by (Settle tick) = All-cons (IsTrueLine whole) (Settled tick) [] tt (All-nil (IsTrueLine whole))
      by (Query tick) =
          All-append (IsTrueLine whole) (banks_told known.module_ tick known.module_.shape.banks) (Settled tick ∷ [])
          (banks-lines whole same tick known.module_.shape.banks (omega arith))
          (All-cons (IsTrueLine whole) (Settled tick) [] tt (All-nil (IsTrueLine whole)))
      by (Look tick) =
          All-cons (IsTrueLine whole) (Looked tick (wear_of e known.array)) (Settled tick ∷ []) tt
          (All-cons (IsTrueLine whole) (Settled tick) [] tt (All-nil (IsTrueLine whole)))
      by (Peek peek) =
          All-cons (IsTrueLine whole) (Peeked peek.tick (record { line = peek.line; bytes = stand_now known.module_ known.array peek.line })) (Settled peek.tick ∷ []) tt
          (All-cons (IsTrueLine whole) (Settled peek.tick) [] tt (All-nil (IsTrueLine whole)))
      by (Until until) = All-cons (IsTrueLine whole) (Settled until.reached) [] tt (All-nil (IsTrueLine whole))
      by (UntilAny until) = All-cons (IsTrueLine whole) (Settled until.reached) [] tt (All-nil (IsTrueLine whole))

  pub in-turn : TellsInTurn raw seed row before (outcome_in results) outcome
  in-turn = record {
    known = record { told = λ k. (each-known k).0; stays = λ k. (each-known k).1 };
    at_once = λ k least most.
        of-each (λ k. is_decided (outcome k) ≡ true → outcome_in results k ≡ outcome k) (λ bank exists. (turned bank exists).decided) k least most;
    rises = λ bank one other exists first_is other_is unset set.
        from-told (last_tick (h bank)) (outcome_in results one) (outcome other) (right-of bank exists one first_is).told ((right-of bank exists other other_is).rest unset set);
    from_here = λ bank k exists comes of unset set.
        from-before (tick_reached (row ∷ before)) (last_tick (h bank)) (outcome k) (reached-low raw seed row before bank (last_tick (h bank)) comes (turned bank exists).low)
        ((right-of bank exists k of).rest unset set);
  }

module _ {n m : ℕ} (e : ℕ) (raw : RawShape) (seed : ℕ) (is : IsShape raw) (all : List (StreamAsked n)) (whole : ℕ → List (TimedEvent n m)) (over : Bool) (outcome : ℕ → Outcome n) (first : outcome 0 ≡ outcome 1)
    (goes : Goes e over raw seed whole (asked_for (events_in all)) outcome) where
  pub all-in-turn : (later asked : List (StreamAsked n)) (h since : ℕ → List (TimedEvent n m)) (told : List (Told n)) (along : TellsAlong e raw seed asked h told) → all ≡ later ++ asked
      → ((bank : ℕ) → whole bank ≡ since bank ++ h bank) → AreInTurn e raw seed asked h told along outcome
  all-in-turn later [] h since told along same parts = tt
  all-in-turn later (row ∷ before) h since told along same parts = (
    all-in-turn (later ++ row ∷ []) before along.0 (λ bank. since bank ++ along.3 bank) along.1 along.2 (same ∙ sym (append_assoc later (row ∷ []) before))
        (λ bank.
        parts bank ∙ ap (λ (h : ℕ → List (TimedEvent n m)). since bank ++ h bank) along.4 ∙ sym (append_assoc (since bank) (along.3 bank) (along.0 bank))),
    in-turn e raw seed is row before h told along.7 (events_in later) since whole parts over outcome first
        (subst (λ (events : List (Event n)). Goes e over raw seed whole (asked_for events) outcome) (ap events_in same ∙ events-both later (row ∷ before)) goes),
  )

  pub all-marks : (later asked : List (StreamAsked n)) (h since : ℕ → List (TimedEvent n m)) (told : List (Told n)) (along : TellsAlong e raw seed asked h told) → all ≡ later ++ asked
      → ((bank : ℕ) → whole bank ≡ since bank ++ h bank) → AreMarksTrue e raw seed all outcome asked h told along
  all-marks later [] h since told along same parts = tt
  all-marks later (row ∷ before) h since told along same parts =
      let events : events_in all ≡ events_in later ++ events_in (row ∷ before) = ap events_in same ∙ events-both later (row ∷ before) in (
        all-marks (later ++ row ∷ []) before along.0 (λ bank. since bank ++ along.3 bank) along.1 along.2 (same ∙ sym (append_assoc later (row ∷ []) before))
            (λ bank.
            parts bank ∙ ap (λ (h : ℕ → List (TimedEvent n m)). since bank ++ h bank) along.4 ∙ sym (append_assoc (since bank) (along.3 bank) (along.0 bank))),
        true-marks e raw seed is row before h told along.7 (events_in later) since whole parts over outcome first
            (subst (λ (events : List (Event n)). Goes e over raw seed whole (asked_for events) outcome) events goes) all (sym events),
      )

pub ended_turn_law : EndedTurnLaw
ended_turn_law n m e raw seed off asked module_ array places told is ended =
    all-in-turn e raw seed is asked (λ bank. ended.finished.0 bank ++ ended.history bank) true (outcome_in (table_of places told)) refl
    (goes-finished raw seed off (λ bank. ended.finished.0 bank ++ ended.history bank) (asked_for (events_in asked)) (bank_at module_) array (outcome_in (table_of places told)) ended.finished.1)
    [] asked ended.history ended.finished.0 ended.said ended.along refl (λ bank. refl)

pub turn_law : TurnLaw
turn_law n m e raw seed asked h module_ array told is along served =
    all-in-turn e raw seed is asked h false (outcome_in table) refl
    (subst (λ (k : ℕ). Goes e false raw k h (asked_for (events_in asked)) (outcome_in table)) served.seeded
    (subst (λ (r : RawShape). Goes e false r module_.seed h (asked_for (events_in asked)) (outcome_in table)) served.shape
    (goes-so-far h (asked_for (events_in asked)) module_ array table served.replays)))
    [] asked h (λ bank. []) told along refl (λ bank. refl)
  where
    table : List (Outcome n)
    table = table_of (length (events_in asked)) told

pub ended_mark_law : EndedMarkLaw
ended_mark_law n m e raw seed off asked module_ array places told is ended =
    all-marks e raw seed is asked (λ bank. ended.finished.0 bank ++ ended.history bank) true (outcome_in (table_of places told)) refl
    (goes-finished raw seed off (λ bank. ended.finished.0 bank ++ ended.history bank) (asked_for (events_in asked)) (bank_at module_) array (outcome_in (table_of places told)) ended.finished.1)
    [] asked ended.history ended.finished.0 ended.said ended.along refl (λ bank. refl)

pub mark_law : MarkLaw
mark_law n m e raw seed asked h module_ array told is along served =
    all-marks e raw seed is asked h false (outcome_in table) refl
    (subst (λ (k : ℕ). Goes e false raw k h (asked_for (events_in asked)) (outcome_in table)) served.seeded
    (subst (λ (r : RawShape). Goes e false r module_.seed h (asked_for (events_in asked)) (outcome_in table)) served.shape
    (goes-so-far h (asked_for (events_in asked)) module_ array table served.replays)))
    [] asked h (λ bank. []) told along refl (λ bank. refl)
  where
    table : List (Outcome n)
    table = table_of (length (events_in asked)) told
