-- What a bank adds to its history until its next action ends, and what is known of a row that stands nowhere.
use Rattle.std.proofs.Common.{◌≡◌, ◌≢◌, ◌⊎◌, ℕ, ◌+◌, ◌<◌, ◌≤◌, ◌||◌, ◌==◌, min, Bool, true, false, List, [], ◌∷◌, ◌++◌, Option, Some, None, inl, inr, refl, sym, ap, subst, ◌∙◌, eq-eqb, arith}
use Rattle.std.{specs.List.list_any, specs.Prelude.{All, IsSomeAnd, if◌then◌else◌, unwrap_or}, proofs.lemmas.Bool.{or_left, or_right}}
use Rattle.std.proofs.lemmas.List.Elements.{All-head, All-tail, All-nil, All-cons, All-weaker}
use Rattle.cell_rows.specs.Device.{ArrayState}
use Rattle.masked_bytes.specs.Entries.{has_row}
use Rattle.result_rows.specs.{Outcomes.tick_of, declared.Outcome.Outcome}
use Rattle.result_rows.specs.declared.Outcome.TheVariants as out
use Rattle.row_rules.specs.{declared.Asks.Asks, declared.Asks.TheVariants.{Reads, Writes, Cuts}}
use Rattle.bank_shape.specs.{declared.BankShape.BankShape, declared.answer.Step.Step, declared.clock.Action.Action, declared.pace.Pace.Pace}
use Rattle.bank_shape.specs.declared.answer.WriteAnswer.TheVariants as wrote
use Rattle.bank_shape.specs.declared.answer.ReadAnswer.TheVariants as came
use Rattle.bank_shape.specs.declared.answer.Step.TheVariants as did
use Rattle.bank_model.specs.{Events.{Write, Read, Serve, Begin, Iterate, Cut}, History.waits, Lawful.Lawful, Timing.{Happens, Core, Regs, TimedEvent, core, ends, last_tick}}
use Rattle.bank_laws.{specs.Outcomes.{on_row, outcome_of, outcome_with, step_outcome}, proofs.Ticks.{last-below, last_tick-rises}}
use Rattle.clock_laws.specs.{Draining.ticks_in, Leads.Leads, Standing.{arrives_with, has_waiting, is_arrival_of}, State.{ClockState, next_action}}
use Rattle.clock_laws.proofs.{Draining.{ends-at, no_gap_law}, Settled.settled_law}
use Rattle.module_laws.specs.Asking.{Asked, AreAsked, IsAsked}
use Rattle.bank_timing.specs.Extending.{EndsAction, IsOpen, IsQuiet, end_by, next_end, outcome_in}
use Rattle.pcm_module.{specs.Replaying.{BankReplays, outcome_so_far}, specs.Telling.has_standing, proofs.Moving.standing_named}
use Rattle.pcm_module.proofs.Naming.{All-both, is_numbered, names, of_named}
use Rattle.row_stream.specs.Reaching.{IsUnsetOrAt}

-- an event tells an outcome with its own tick
module _ {n : ℕ} (tick row : ℕ) (o : Outcome n) where
  own-tick : (at : ℕ) (mine : Outcome n) → tick_of mine ≡ Some tick → on_row at row mine ≡ Some o → tick_of o ≡ Some tick
  own-tick at mine own is = by (at == row) is
    where
      by : (b : Bool) → (if b then Some mine else None) ≡ Some o → tick_of o ≡ Some tick
      by true is =
          let same : mine ≡ o = cc in
          ap tick_of (sym same) ∙ own
      by false is = absurd (cc is)

  step-tick : (answer : Step) → step_outcome answer tick row ≡ Some o → tick_of o ≡ Some tick
  step-tick did.More is = absurd (cc is)
  step-tick (did.Stored at place) is = own-tick at (out.Stored tick place) refl is
  step-tick (did.Moved step) is = absurd (cc is)
  step-tick (did.Retired slot line) is = absurd (cc is)
  step-tick did.Exhausted is = absurd (cc is)

  with-tick : {m : ℕ} (shape : BankShape) (xs : List (TimedEvent n m)) (h : Happens n) → outcome_with shape xs h tick row ≡ Some o → tick_of o ≡ Some tick
  with-tick shape xs (Regs event) is = absurd (cc is)
  with-tick shape xs (Core (Write at line bytes given wrote.Accepted)) is = absurd (cc is)
  with-tick shape xs (Core (Write at line bytes given (wrote.Merged old))) is = own-tick old (out.Merged tick) refl is
  with-tick shape xs (Core (Write at line bytes given wrote.Full)) is = own-tick at (out.Full tick) refl is
  with-tick shape xs (Core (Write at line bytes given wrote.Exhausted)) is = own-tick at (out.Worn tick) refl is
  with-tick shape xs (Core (Read at line (came.Forwarded bytes))) is = own-tick at (out.Forwarded tick bytes) refl is
  with-tick shape xs (Core (Read at line came.Busy)) is = own-tick at (out.Busy tick) refl is
  with-tick shape xs (Core (Read at line came.Waiting)) is = absurd (cc is)
  with-tick shape xs (Core (Serve answer)) is = own-tick answer.row (out.Read tick answer.place answer.bytes) refl is
  with-tick shape xs (Core (Begin answer)) is = step-tick answer is
  with-tick shape xs (Core (Iterate answer)) is = step-tick answer is
  with-tick shape xs (Core (Cut tearing)) is = lost (list_any (λ w. w.row == row) (waits shape (core xs))) is
    where
      lost : (b : Bool) → (if b then Some (out.Lost tick) else None) ≡ Some o → tick_of o ≡ Some tick
      lost true is =
          let same : out.Lost tick ≡ o = cc in
          ap tick_of (sym same)
      lost false is = absurd (cc is)

-- a row has the outcome that it had, or one of such a tick
abbrev pub IsOrTells : {n : ℕ} → (ℕ → Type 0) → Outcome n → Outcome n → Type 0
IsOrTells Is old new = (new ≡ old) ⊎ ((tick : ℕ) × Is tick × (tick_of new ≡ Some tick))

-- events of such ticks leave a row its outcome, or give it one of such a tick
told-by : {n m : ℕ} (Is : ℕ → Type 0) (shape : BankShape) (row : ℕ) (added xs : List (TimedEvent n m)) → All (λ x. Is x.tick) added
    → IsOrTells Is (outcome_of shape xs row) (outcome_of shape (added ++ xs) row)
told-by Is shape row [] xs at = inl refl
told-by {n} {m} Is shape row (x ∷ rest) xs at =
    by (outcome_with shape (rest ++ xs) x.happens x.tick row) refl (told-by Is shape row rest xs (All-tail (λ (x : TimedEvent n m). Is x.tick) x rest at))
  where
    own : Is x.tick
    own = All-head (λ (x : TimedEvent n m). Is x.tick) x rest at

    by : (o : Option (Outcome n)) → outcome_with shape (rest ++ xs) x.happens x.tick row ≡ o → IsOrTells Is (outcome_of shape xs row) (outcome_of shape (rest ++ xs) row)
        → IsOrTells Is (outcome_of shape xs row) (unwrap_or o (outcome_of shape (rest ++ xs) row))
    by None is before = before
    by (Some o) is before = inr (x.tick, own, with-tick x.tick row o shape (rest ++ xs) x.happens is)

least-left : (a b c : ℕ) → c ≡ a → min a b ≤ c
least-left a b c same = omega (arith, same)

module _ {n m e : ℕ} (xs : List (TimedEvent n m)) (clock : ClockState n m e) (array : ArrayState n m) (read : 1 ≤ clock.pace.read) (iter : 1 ≤ clock.pace.iter) (leads : Leads xs clock array) where
  -- no action ends before the one that runs from now on
  none-sooner : (to : ℕ) (x : TimedEvent n m) (rest : List (TimedEvent n m)) → Lawful clock.bank.kept.shape clock.pace e (x ∷ (rest ++ xs)) → IsQuiet (x ∷ rest) → next_end to clock ≤ x.tick
  none-sooner to x [] lawful quiet =
      by (next_action clock) refl (no_gap_law n m e x [] xs clock array read iter leads lawful quiet)
    where
      by : (a : Option Action) → next_action clock ≡ a → IsSomeAnd a (λ a. x.tick ≡ a.first + ticks_in clock.pace (x ∷ [])) → end_by to clock.pace a ≤ x.tick
      by None is some = absurd some
      by (Some action) is some =
          least-left (ends clock.pace action) to x.tick
          (ends-at xs clock array read iter leads x action lawful (All-head (λ (y : TimedEvent n m). EndsAction y) x [] quiet) is)
  none-sooner to x (y ∷ ys) lawful quiet =
      let before = none-sooner to y ys lawful.1 (All-tail (λ (y : TimedEvent n m). EndsAction y) x (y ∷ ys) quiet) in
      let later : y.tick < x.tick =
      last-below clock.bank.kept.shape clock.pace e (y ∷ (ys ++ xs)) x read iter lawful (All-head (λ (y : TimedEvent n m). EndsAction y) x (y ∷ ys) quiet) in
      omega (arith, before, later)

  -- all that end by then end there
  all-there : (to tick : ℕ) → tick ≤ next_end to clock → (added : List (TimedEvent n m)) → Lawful clock.bank.kept.shape clock.pace e (added ++ xs) → IsQuiet added
      → last_tick (added ++ xs) ≤ tick → All (λ x. x.tick ≡ tick) added
  all-there to tick is [] lawful quiet top = All-nil (λ (x : TimedEvent n m). x.tick ≡ tick)
  all-there to tick is (x ∷ rest) lawful quiet top =
      let low = none-sooner to x rest lawful quiet in
      let rises : last_tick (rest ++ xs) ≤ x.tick = last_tick-rises clock.bank.kept.shape clock.pace e (rest ++ xs) x read iter lawful in
      All-cons (λ (x : TimedEvent n m). x.tick ≡ tick) x rest (omega (arith, low, is, top))
      (all-there to tick is rest lawful.1 (All-tail (λ (y : TimedEvent n m). EndsAction y) x rest quiet) (omega (arith, rises, top)))

  -- all that end by a tick end behind one by which none ends
  all-between : (to low tick : ℕ) → low < next_end to clock → (added : List (TimedEvent n m)) → Lawful clock.bank.kept.shape clock.pace e (added ++ xs) → IsQuiet added
      → last_tick (added ++ xs) ≤ tick → All (λ x. (low < x.tick) × (x.tick ≤ tick)) added
  all-between to low tick none [] lawful quiet top = All-nil (λ (x : TimedEvent n m). (low < x.tick) × (x.tick ≤ tick))
  all-between to low tick none (x ∷ rest) lawful quiet top =
      let first = none-sooner to x rest lawful quiet in
      let rises : last_tick (rest ++ xs) ≤ x.tick = last_tick-rises clock.bank.kept.shape clock.pace e (rest ++ xs) x read iter lawful in
      All-cons (λ (x : TimedEvent n m). (low < x.tick) × (x.tick ≤ tick)) x rest (omega (arith, none, first), omega (arith, top))
      (all-between to low tick none rest lawful.1 (All-tail (λ (y : TimedEvent n m). EndsAction y) x rest quiet) (omega (arith, rises, top)))

  -- each of some events comes by a tick that is not before the last one
  all-by : (tick : ℕ) (added : List (TimedEvent n m)) → Lawful clock.bank.kept.shape clock.pace e (added ++ xs) → last_tick (added ++ xs) ≤ tick → All (λ x. x.tick ≤ tick) added
  all-by tick [] lawful top = All-nil (λ (x : TimedEvent n m). x.tick ≤ tick)
  all-by tick (x ∷ rest) lawful top =
      let rises : last_tick (rest ++ xs) ≤ x.tick = last_tick-rises clock.bank.kept.shape clock.pace e (rest ++ xs) x read iter lawful in
      All-cons (λ (x : TimedEvent n m). x.tick ≤ tick) x rest (omega (arith, top)) (all-by tick rest lawful.1 (omega (arith, rises, top)))

-- a row that was asked of a bank and has a number there arrived
arrived-named : {n m : ℕ} (xs : List (TimedEvent n m)) (own : List (Asked n)) → AreAsked xs own → All (λ a. is_numbered a.asks ≡ true → arrives_with xs a.row ≡ true) own
arrived-named {n} {m} [] own none = subst (λ (rest : List (Asked n)). All (λ a. is_numbered a.asks ≡ true → arrives_with {n = n} {m = m} [] a.row ≡ true) rest) (sym none) (All-nil (λ (a : Asked n). is_numbered a.asks ≡ true → arrives_with {n = n} {m = m} [] a.row ≡ true))
arrived-named {n} {m} (x ∷ xs) own is = by x.happens x.cancels own is (λ rest are. arrived-named xs rest are)
  where
    Before : Asked n → Type 0
    Before a = is_numbered a.asks ≡ true → arrives_with xs a.row ≡ true

    Now : Happens n → Asked n → Type 0
    Now h a = is_numbered a.asks ≡ true → (is_arrival_of h a.row || arrives_with xs a.row) ≡ true

    later : (h : Happens n) (rest : List (Asked n)) → All Before rest → All (Now h) rest
    later h rest had = All-weaker Before (Now h) (λ a before numbered. or_right (is_arrival_of h a.row) (arrives_with xs a.row) (before numbered)) rest had

    by : (h : Happens n) (cancels : Bool) (own : List (Asked n)) → IsAsked h cancels x.tick (AreAsked xs) own
        → ((rest : List (Asked n)) → AreAsked xs rest → All Before rest) → All (Now h) own
    by (Core (Write at line bytes given answer)) cancels [] is rec = absurd is
    by (Core (Write at line bytes given answer)) cancels (a ∷ own) is rec =
        All-cons (Now (Core (Write at line bytes given answer))) a own
        (λ numbered. or_left (at == a.row) (arrives_with xs a.row) (eq-eqb at a.row (sym (ap (λ (a : Asked n). a.row) is.0))))
        (later (Core (Write at line bytes given answer)) own (rec own is.1))
    by (Core (Read at line answer)) cancels [] is rec = absurd is
    by (Core (Read at line answer)) cancels (a ∷ own) is rec =
        All-cons (Now (Core (Read at line answer))) a own
        (λ numbered. or_left (at == a.row) (arrives_with xs a.row) (eq-eqb at a.row (sym (ap (λ (a : Asked n). a.row) is.0))))
        (later (Core (Read at line answer)) own (rec own is.1))
    by (Core (Serve answer)) cancels own is rec = later (Core (Serve answer)) own (rec own is)
    by (Core (Begin answer)) cancels own is rec = later (Core (Begin answer)) own (rec own is)
    by (Core (Iterate answer)) cancels own is rec = later (Core (Iterate answer)) own (rec own is)
    by (Core (Cut tearing)) true own is rec = later (Core (Cut tearing)) own (rec own is)
    by (Core (Cut tearing)) false [] is rec = absurd is
    by (Core (Cut tearing)) false (a ∷ own) is rec =
        All-cons (Now (Core (Cut tearing))) a own (λ numbered. absurd (cut-numbered a is.1 numbered)) (later (Core (Cut tearing)) own (rec own is.2))
      where
        cut-numbered : (a : Asked n) → a.asks ≡ Cuts → is_numbered a.asks ≡ true → ⊥
        cut-numbered a cut numbered = let no : false ≡ true = sym (ap is_numbered cut) ∙ numbered in cc no
    by (Regs event) cancels own is rec = later (Regs event) own (rec own is)

module _ {n m e : ℕ} (shape : BankShape) (pace : Pace) (tick rows : ℕ) (xs : List (TimedEvent n m)) (asked : List (Asked n)) (array : ArrayState n m) (results : List (Outcome n)) (clock : ClockState n m e)
    (had : BankReplays shape pace tick rows xs asked array results clock) where
  -- a row that stands in a bank has no outcome yet
  pub standing-unset : (row : ℕ) → has_standing clock.bank row ≡ true → outcome_in results row ≡ out.Unset
  standing-unset row stands = by (has_row clock.bank.kept.entries row) refl stands
    where
      unset : IsOpen results row → outcome_in results row ≡ out.Unset
      unset is = ap (λ (o : Option (Outcome n)). unwrap_or o out.Unset) is.unset

      by : (b : Bool) → has_row clock.bank.kept.entries row ≡ b → (b || has_waiting clock.bank.waiting row) ≡ true → outcome_in results row ≡ out.Unset
      by true is stands = unset (had.open_rows.queued row is)
      by false is stands = unset (had.open_rows.waiting row stands)

  -- and was asked of it
  pub standing-own : (row : ℕ) → has_standing clock.bank row ≡ true → names asked row ≡ true
  standing-own row stands = by (has_row clock.bank.kept.entries row) refl stands
    where
      by : (b : Bool) → has_row clock.bank.kept.entries row ≡ b → (b || has_waiting clock.bank.waiting row) ≡ true → names asked row ≡ true
      by true is stands = standing_named xs clock array had.leads asked had.arrived row (inl is)
      by false is stands = standing_named xs clock array had.leads asked had.arrived row (inr stands)

  -- a row that was asked of a bank has its outcome, or stands there
  abbrev pub IsDone : ℕ → Type 0
  IsDone row = (outcome_in results row ≢ out.Unset) ⊎ (has_standing clock.bank row ≡ true)

  pub own-done : All (λ a. IsDone a.row) asked
  own-done =
      All-both (λ (a : Asked n). outcome_in results a.row ≡ outcome_so_far shape xs a a.asks) (λ (a : Asked n). is_numbered a.asks ≡ true → arrives_with xs a.row ≡ true) (λ (a : Asked n). IsDone a.row)
      (λ a told came. by a a.asks told came) asked had.recorded (arrived-named xs asked had.arrived)
    where
      numbered : (a : Asked n) → outcome_in results a.row ≡ outcome_of shape xs a.row → arrives_with xs a.row ≡ true → (q w : Bool) → has_row clock.bank.kept.entries a.row ≡ q → has_waiting clock.bank.waiting a.row ≡ w
          → (outcome_in results a.row ≢ out.Unset) ⊎ ((q || w) ≡ true)
      numbered a told came true w queued waits = inr refl
      numbered a told came false true queued waits = inr refl
      numbered a told came false false queued waits =
          inl (λ unset. settled_law n m e a.row xs clock array had.leads came queued waits
          (subst (λ (s : BankShape). outcome_of s xs a.row ≡ out.Unset) (sym had.shaped) (sym told ∙ unset)))

      by : (a : Asked n) (asks : Asks n) → outcome_in results a.row ≡ outcome_so_far shape xs a asks → (is_numbered asks ≡ true → arrives_with xs a.row ≡ true) → IsDone a.row
      by a (Reads line) told came = numbered a told (came refl) (has_row clock.bank.kept.entries a.row) (has_waiting clock.bank.waiting a.row) refl refl
      by a (Writes line bytes given) told came = numbered a told (came refl) (has_row clock.bank.kept.entries a.row) (has_waiting clock.bank.waiting a.row) refl refl
      by a Cuts told came = inl (λ unset. (let no : out.Cut a.tick ≡ out.Unset = sym told ∙ unset in cc no))

  module _ (later above : ℕ) (added : List (TimedEvent n m)) (after : ArrayState n m) (recorded : List (Outcome n)) (next : ClockState n m e)
      (now : BankReplays shape pace later above (added ++ xs) asked after recorded next) (read : 1 ≤ pace.read) (iter : 1 ≤ pace.iter) where
    lawful : Lawful clock.bank.kept.shape clock.pace e (added ++ xs)
    lawful =
        subst (λ (s : BankShape). Lawful s clock.pace e (added ++ xs)) (now.shaped ∙ sym had.shaped)
        (subst (λ (p : Pace). Lawful next.bank.kept.shape p e (added ++ xs)) (now.paced ∙ sym had.paced) now.leads.lawful)

    top : (reached : ℕ) → next.tick ≡ reached → last_tick (added ++ xs) ≤ reached
    top reached at = subst (λ (t : ℕ). last_tick (added ++ xs) ≤ t) at now.leads.told.now

    reads : 1 ≤ clock.pace.read
    reads = subst (λ (p : Pace). 1 ≤ p.read) (sym had.paced) read

    iters : 1 ≤ clock.pace.iter
    iters = subst (λ (p : Pace). 1 ≤ p.iter) (sym had.paced) iter

    -- what the bank did more it did by the tick to which it came
    pub done-by : (reached : ℕ) → next.tick ≡ reached → All (λ x. x.tick ≤ reached) added
    done-by reached at = all-by xs clock array reads iters had.leads reached added lawful (top reached at)

    -- and behind a tick by which no action ended that ran then
    pub done-between : (to low reached : ℕ) → low < next_end to clock → IsQuiet added → next.tick ≡ reached → All (λ x. (low < x.tick) × (x.tick ≤ reached)) added
    done-between to low reached none quiet at = all-between xs clock array reads iters had.leads to low reached none added lawful quiet (top reached at)

    -- and all of it there, where that is no later than the next action ends
    pub done-there : (to reached : ℕ) → reached ≤ next_end to clock → IsQuiet added → next.tick ≡ reached → All (λ x. x.tick ≡ reached) added
    done-there to reached none quiet at = all-there xs clock array reads iters had.leads to reached none added lawful quiet (top reached at)

    -- by events of such ticks each of its rows has the outcome that it had, or one of such a tick
    pub told-own : (Is : ℕ → Type 0) → All (λ x. Is x.tick) added → All (λ a. IsOrTells Is (outcome_in results a.row) (outcome_in recorded a.row)) asked
    told-own Is there =
        All-both (λ (a : Asked n). outcome_in results a.row ≡ outcome_so_far shape xs a a.asks) (λ (a : Asked n). outcome_in recorded a.row ≡ outcome_so_far shape (added ++ xs) a a.asks)
        (λ (a : Asked n). IsOrTells Is (outcome_in results a.row) (outcome_in recorded a.row))
        (λ a before after. by a a.asks before after) asked had.recorded now.recorded
      where
        on : (row : ℕ) → outcome_in results row ≡ outcome_of shape xs row → outcome_in recorded row ≡ outcome_of shape (added ++ xs) row → IsOrTells Is (outcome_in results row) (outcome_in recorded row)
        on row before after =
            elim (told-by Is shape row added xs there) [
              | inl same ↦ inl (after ∙ same ∙ sym before)
              | inr when ↦ inr (when.0, when.1, ap tick_of after ∙ when.2)
            ]

        by : (a : Asked n) (asks : Asks n) → outcome_in results a.row ≡ outcome_so_far shape xs a asks → outcome_in recorded a.row ≡ outcome_so_far shape (added ++ xs) a asks
            → IsOrTells Is (outcome_in results a.row) (outcome_in recorded a.row)
        by a (Reads line) before after = on a.row before after
        by a (Writes line bytes given) before after = on a.row before after
        by a Cuts before after = inl (after ∙ sym before)

    -- once the bank has come to the tick at which its next action ends, a row that stood there has no outcome yet, or has it at that tick
    pub first-told : IsQuiet added → (to reached : ℕ) → reached ≡ next_end to clock → next.tick ≡ reached → (row : ℕ) → has_standing clock.bank row ≡ true → IsUnsetOrAt reached (outcome_in recorded row)
    first-told quiet to reached is at row stands =
        elim (of_named Told asked row (told-own (λ t. t ≡ reached) there) (standing-own row stands)) [
          | inl same ↦ inl (ap tick_of (same ∙ standing-unset row stands))
          | inr when ↦ inr (when.2 ∙ ap Some when.1)
        ]
      where
        Told : ℕ → Type 0
        Told row = IsOrTells (λ t. t ≡ reached) (outcome_in results row) (outcome_in recorded row)

        there : All (λ x. x.tick ≡ reached) added
        there = done-there to reached (omega (arith, is)) quiet at
