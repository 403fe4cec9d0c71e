-- A power cut: what becomes of the clock, the array and the results.
use Rattle.std.proofs.Common.{◌≡◌, ℕ, ◌+◌, ◌<◌, ◌==◌, ◌||◌, ◌&&◌, not, Bool, true, false, List, [], ◌∷◌, length, map, drop, Option, Some, None, is_some, refl, sym, ap, subst, ◌∙◌, arith, eq-eqb}
use Rattle.std.{specs.Prelude.{unwrap_or, IsTrue, IfSome, if◌then◌else◌, slice_get}, proofs.lemmas.Bool.{false≢true, eqb-true, ne_eqb, or_right, not-true}}
use Rattle.masked_bytes.proofs.Truth.{neither_first, neither_second, and_first, and_second, and_true, and_false}
use Rattle.cell_rows.specs.Device.{ArrayState, LineState}
use Rattle.result_rows.specs.{Table.{HasRow, with_outcome}, declared.Outcome.Outcome}
use Rattle.result_rows.specs.declared.Outcome.TheVariants as out
use Rattle.bank_shape.specs.{Shape.controls_from, declared.BankShape.BankShape, declared.clock.Action.Action, declared.clock.Doing.Doing}
use Rattle.bank_shape.specs.{declared.clock.Doing.TheVariants.{Serving, Beginning, Iterating}, declared.pace.Pace.Pace, declared.waiting.Waiting.Waiting}
use Rattle.bank_model.specs.{Changes.all_controls, Events.{BankEvent, Cut}, History.{iterated, waits}, Running.tears_bank, Sensing.is_at}
use Rattle.bank_model.specs.{Timing.{TimedEvent, core, is_doing, same_doing}, Touching.{Touches, Strikes, AreStruck}}
use Rattle.line_writer.specs.Orderly.{IsLive}
use Rattle.bank_invariant.{specs.Holds.Holds, specs.State.{BankState, Operation}, specs.Steps.cut_off, proofs.Fine.strikes-tear}
use Rattle.bank_core.specs.Cutting.{torn_line, IsTorn}
use Rattle.reg_lines.specs.{Keeping.{IsTorn as IsTornControl, broken_off, torn_line as regs_torn, target_of as regs_target}, Regs.{RegsState, AreHeld}, declared.Change.Change}
use Rattle.clock_laws.specs.{Actions.{torn_line as line_torn, LeadsOn as CutEnds}, Cutting.{cut, after_cut}, Fitting.{Fits, IsFit}, Leads.Leads}
use Rattle.clock_laws.{specs.Standing.{has_waiting, WaitingApart, AreApart}, specs.State.ClockState, specs.Tearing.TearsControl, proofs.Elsewhere.holds-same}
use Rattle.clock_laws.proofs.{Fitting.{needs_law, no_one}, Others.{apart_law, same_wait, other_rows_law}, Tearing.{tears-control, cut_ends_law}}
use Rattle.clock_laws.proofs.Together.{controls_stay_law, cut_touches_law}
use Rattle.power_recovery.specs.Kept.{KeptState}
use Rattle.register_laws.{specs.Control.{Control, LeavesControls}, specs.Telling.item_of, proofs.Staying.stays_law, proofs.Writing.broken_law}
use Rattle.bank_timing.specs.{Clock.IsClock, Extending.{Extends, AreOpen, IsOpen, LeavesOthers, outcome_in}, Losing.{lost_recorded, LosesOpen, bank_with_lost}}
use Rattle.bank_timing.proofs.{Rows.{rows-set, has-set, in-set, open-set}, Standing.{waits-head, apart-by}}

-- the rows of waiting reads
abbrev pub rows_of : {n : ℕ} → List (Waiting n) → List ℕ
rows_of ws = map (λ w. w.row) ws

module _ {n : ℕ} (tick : ℕ) where
  lost-rows : (rows : List ℕ) (results : List (Outcome n)) → length (lost_recorded tick rows results) ≡ length results
  lost-rows [] results = refl
  lost-rows (row ∷ rows) results = lost-rows rows (with_outcome results row (out.Lost tick)) ∙ rows-set results row (out.Lost tick)

  -- those that wait are open, also once the first is lost
  rest-open : (w : Waiting n) (ws : List (Waiting n)) (results : List (Outcome n)) → WaitingApart (w ∷ ws) → ((row : ℕ) → has_waiting (w ∷ ws) row ≡ true → IsOpen results row)
      → (row : ℕ) → has_waiting ws row ≡ true → IsOpen (with_outcome results w.row (out.Lost tick)) row
  rest-open w ws results apart unset row there =
      open-set results w.row (out.Lost tick) row (unset w.row (waits-head w ws)).exists (apart-by (has_waiting ws) row w.row there apart.0) (unset row (or_right (w.row == row) (has_waiting ws row) there))

  pub loses-open : (ws : List (Waiting n)) (results : List (Outcome n)) → WaitingApart ws → ((row : ℕ) → has_waiting ws row ≡ true → IsOpen results row) → LosesOpen tick (rows_of ws) results
  loses-open [] results apart unset = tt
  loses-open (w ∷ ws) results apart unset =
      (unset w.row (waits-head w ws), loses-open ws (with_outcome results w.row (out.Lost tick)) apart.1 (rest-open w ws results apart unset))

  -- a row that doesn't wait keeps what it has
  kept-open : (ws : List (Waiting n)) (results : List (Outcome n)) (row : ℕ) → WaitingApart ws → ((row : ℕ) → has_waiting ws row ≡ true → IsOpen results row)
      → has_waiting ws row ≡ false → IsOpen results row → IsOpen (lost_recorded tick (rows_of ws) results) row
  kept-open [] results row apart unset none own = own
  kept-open (w ∷ ws) results row apart unset none own =
      kept-open ws (with_outcome results w.row (out.Lost tick)) row apart.1 (rest-open w ws results apart unset) (neither_second (w.row == row) _ none)
      (open-set results w.row (out.Lost tick) row (unset w.row (waits-head w ws)).exists (λ same. absurd (differ (w.row == row) (neither_first (w.row == row) _ none) (eq-eqb w.row row (sym same)))) own)
    where
      differ : (a : Bool) → a ≡ false → a ≡ true → ⊥
      differ true h k = cc
      differ false h k = cc

  -- a row is lost exactly if it waited
  lost-in : (ws : List (Waiting n)) (results : List (Outcome n)) (row : ℕ) → WaitingApart ws → ((row : ℕ) → has_waiting ws row ≡ true → IsOpen results row) → HasRow results row
      → outcome_in (lost_recorded tick (rows_of ws) results) row ≡ unwrap_or (if has_waiting ws row then Some (out.Lost tick) else None) (outcome_in results row)
  lost-in [] results row apart unset there = refl
  lost-in (w ∷ ws) results row apart unset there =
      lost-in ws (with_outcome results w.row (out.Lost tick)) row apart.1 (rest-open w ws results apart unset) (has-set results w.row (out.Lost tick) row there)
      ∙ ap (λ (o : Outcome n). unwrap_or (if has_waiting ws row then Some (out.Lost tick) else None) o) (in-set results w.row (out.Lost tick) row (unset w.row (waits-head w ws)).exists there)
      ∙ by (w.row == row) (has_waiting ws row)
    where
      by : (a b : Bool) → unwrap_or (if b then Some (out.Lost tick) else None) (unwrap_or (if a then Some (out.Lost tick) else None) (outcome_in results row))
          ≡ unwrap_or (if (a || b) then Some (out.Lost tick) else None) (outcome_in results row)
      by true true = refl
      by true false = refl
      by false true = refl
      by false false = refl

pub lose-next : {n : ℕ} (tick : ℕ) (lost : List ℕ) (row : ℕ) (results : List (Outcome n)) → slice_get lost 0 ≡ Some row → LosesOpen tick lost results
    → IsOpen results row × LosesOpen tick (drop 1 lost) (with_outcome results row (out.Lost tick))
    × (lost_recorded tick (drop 1 lost) (with_outcome results row (out.Lost tick)) ≡ lost_recorded tick lost results) × (length (drop 1 lost) < length lost)
lose-next tick [] row results head loses = absurd (cc)
lose-next {n = n} tick (at ∷ lost) row results head loses =
    let same : at ≡ row = cc in
    subst (λ (row : ℕ). IsOpen results row × LosesOpen tick lost (with_outcome results row (out.Lost tick))
    × (lost_recorded tick lost (with_outcome results row (out.Lost tick)) ≡ lost_recorded tick (at ∷ lost) results) × (length lost < length (at ∷ lost))) same
    (loses.0, loses.1, refl, omega arith)

-- where no row is left to take, none is lost
pub lose-none : {n : ℕ} (tick : ℕ) (lost : List ℕ) (results : List (Outcome n)) → slice_get lost 0 ≡ None → (lost ≡ []) × (lost_recorded tick lost results ≡ results)
lose-none tick [] results none = (refl, refl)
lose-none tick (at ∷ lost) results none = absurd (cc)

-- a bank with its clock, as contracts see it
abbrev pub view_by : {n m e : ℕ} → BankState n m e → RegsState n m e → Pace → ℕ → Option Action → List ℕ → ℕ → Bool → ClockState n m e
view_by bank regs pace tick action arrivals cancels drained = record { bank = bank; regs = regs; pace = pace; tick = tick; action = action; arrivals = arrivals; cancels = cancels; drained = drained }

-- what the lost rows are doesn't matter to an action
pub lost-clock : {n m e : ℕ} (rows : List ℕ) (bank : BankState n m e) (regs : RegsState n m e) (pace : Pace) (tick capacity : ℕ) (action : Option Action) → IsClock bank regs pace tick action capacity
    → IsClock (bank_with_lost rows bank) regs pace tick action capacity
lost-clock {n} {m} {e} rows bank regs pace tick capacity action inv = record { layout = inv.layout; paced = inv.paced; room = inv.room; begun = inv.begun; fit = by action inv.fit; idle = inv.idle }
  where
    same : (d : Doing) → Fits bank regs d → Fits (bank_with_lost rows bank) regs d
    same Serving own = own
    same Beginning own = own
    same Iterating own = own

    by : (action : Option Action) → IsFit bank regs action → IsFit (bank_with_lost rows bank) regs action
    by None fit = tt
    by (Some action) fit = same action.doing fit

pub same_torn : {n m e : ℕ} (tearing : Bool) (regs : RegsState n m e) (running : Option (Operation n m e)) → torn_line tearing running ≡ line_torn tearing regs None running
same_torn true regs None = refl
same_torn true regs (Some op) = refl
same_torn false regs running = refl

-- an action that iterates fits only where a line write is in progress
pub iterating-fits : {n m e : ℕ} (bank : BankState n m e) (regs : RegsState n m e) (a : Option Action) → IsFit bank regs a → is_doing Iterating a ≡ true → Fits bank regs Iterating
iterating-fits bank regs None fit is = absurd (cc)
iterating-fits {n} {m} {e} bank regs (Some a) fit is = iterates a.doing fit is
  where
    iterates : (d : Doing) → Fits bank regs d → same_doing Iterating d ≡ true → Fits bank regs Iterating
    iterates Serving fit is = absurd (cc)
    iterates Beginning fit is = absurd (cc)
    iterates Iterating fit is = fit

-- a cut meets a clock whose action has what it needs: some history leads there over an array, and the rows that stand have no outcome yet
pub record MeetsCut {n m e : ℕ} (clock : ClockState n m e) (old : ArrayState n m) (results : List (Outcome n)) : Type 0 where
  pub fit : IsFit clock.bank clock.regs clock.action
  pub led : (xs : List (TimedEvent n m)) × Leads xs clock old
  pub unset : AreOpen clock.bank results

-- what a power cut asks for says so
pub meets : {n m e : ℕ} {clock now : ClockState n m e} {old : ArrayState n m} {results : List (Outcome n)} → clock ≡ now
    → IsFit clock.bank clock.regs clock.action → (xs : List (TimedEvent n m)) × Leads xs now old → AreOpen now.bank results → MeetsCut clock old results
meets {n = n} {m = m} {e = e} {old = old} {results = results} view fit led unset = record {
  fit = fit;
  led = subst (λ (clock : ClockState n m e). (xs : List (TimedEvent n m)) × Leads xs clock old) (sym view) led;
  unset = subst (λ (clock : ClockState n m e). AreOpen clock.bank results) (sym view) unset;
}

-- what a line write of the bank pulses or tears is no control line
pub work-leaves : {n m e : ℕ} (xs : List (TimedEvent n m)) (clock : ClockState n m e) (old new : ArrayState n m) (tick : ℕ) (tearing : Bool) → Leads xs clock old
    → Touches tick [] (torn_line tearing clock.bank.running) tearing old new → LeavesControls clock.regs old new
work-leaves {n} {m} {e} xs clock old new tick tearing leads touches = record { lines = touches.lines; controls = by tearing clock.bank.running refl touches }
  where
    by : (tearing : Bool) (r : Option (Operation n m e)) → clock.bank.running ≡ r → Touches tick [] (torn_line tearing r) tearing old new
        → (item : ℕ) → item < clock.regs.items → new.line (clock.regs.base + item) ≡ old.line (clock.regs.base + item)
    by false r is touches item below = touches.others (clock.regs.base + item) refl
    by true None is touches item below = touches.others (clock.regs.base + item) refl
    by true (Some op) is touches item below =
        controls_stay_law n m e tick item [] true op xs clock old new leads is (subst (λ (count : ℕ). item < count) leads.control.own.items below) touches

-- it tears cells that have missed in each of its iterations
pub work-struck : {n m e : ℕ} (h : List (BankEvent n)) (bank : BankState n m e) (old new : ArrayState n m) (tearing : Bool) → Holds h bank old
    → (IsTrue tearing → IfSome bank.running (λ op. IsTorn op old new)) → AreStruck bank.kept.shape h (Cut tearing) (torn_line tearing bank.running) old new
work-struck {n} {m} {e} h bank old new tearing holds torn = by tearing bank.running refl torn
  where
    by : (tearing : Bool) (r : Option (Operation n m e)) → bank.running ≡ r → (IsTrue tearing → IfSome r (λ op. IsTorn op old new))
        → AreStruck bank.kept.shape h (Cut tearing) (torn_line tearing r) old new
    by false r is torn = λ line below hit live. cc
    by true None is torn = λ line below hit live. cc
    by true (Some op) is torn = λ line below hit live.
        let at : op.target ≡ bank.kept.shape.base + line = eqb-true op.target (bank.kept.shape.base + line) hit in
        subst (λ (at : ℕ). Strikes old.bounds (iterated h) true (old.line at) (new.line at)) at
        (strikes-tear h bank old new op holds is (torn refl).tear (subst (λ (at : ℕ). IsLive (old.line at)) (sym at) live))

-- and what a change's pulses or tears is no slot and no spare
pub change-leaves : {n m e : ℕ} (kept : KeptState n) (regs : RegsState n m e) (old : ArrayState n m) (tearing : Bool) (line : ℕ) → Control kept regs old → line < controls_from kept.shape
    → is_at (regs_torn tearing regs) line ≡ false
change-leaves kept regs old false line control below = refl
change-leaves kept regs old true line control below = by regs.change
  where
    by : (change : Option Change) → is_at (regs_target regs change) line ≡ false
    by None = refl
    by (Some change) =
        let base = control.own.base in
        ne_eqb (regs.base + change.item) line (λ same. apart regs.base (controls_from kept.shape) change.item same base below)
      where
        apart : (base from item : ℕ) → base + item ≡ line → base ≡ from → line < from → ⊥
        apart base from item same is below = omega (arith, same, is, below)

module _ {n m e : ℕ} {clock : ClockState n m e} {old : ArrayState n m} {results : List (Outcome n)} (c : MeetsCut clock old results) where
  apart : AreApart clock.bank.kept.entries clock.bank.waiting clock.bank.rows_below
  apart = apart_law n m e c.led.0 clock old c.led.1

  abbrev iterating : Bool
  iterating = is_doing Iterating clock.action

  abbrev stands : Bool
  stands = is_some clock.regs.change

  -- an iteration runs only where a line write is in progress
  pub cut-ready : (tearing : Bool) → tearing ≡ (iterating && not stands) → IsTrue tearing → IsTrue (is_some clock.bank.running)
  cut-ready tearing is torn =
      let both : (iterating && not stands) ≡ true = sym is ∙ torn in
      (needs_law n m e clock.bank clock.regs).iterates
      (no_one clock.regs.change (not-true _ (and_second iterating (not stands) both)))
      (iterating-fits clock.bank clock.regs clock.action c.fit (and_first iterating (not stands) both))

  pub cut-change-ready : (tearing : Bool) → tearing ≡ (iterating && stands) → IsTrue tearing → IsTrue (is_some clock.regs.writer)
  cut-change-ready tearing is torn =
      let both : (iterating && stands) ≡ true = sym is ∙ torn in
      (needs_law n m e clock.bank clock.regs).iterates_change (and_second iterating stands both)
      (iterating-fits clock.bank clock.regs clock.action c.fit (and_first iterating stands both))

  -- the reads that the cut takes away have no outcome yet
  pub cut-open : LosesOpen clock.tick (rows_of clock.bank.waiting) results
  cut-open = loses-open clock.tick clock.bank.waiting results apart.waiting_apart c.unset.waiting

  abbrev pub after : BankState n m e
  after = bank_with_lost [] (cut_off clock.bank)

  abbrev pub recorded : List (Outcome n)
  recorded = lost_recorded clock.tick (rows_of clock.bank.waiting) results

  -- nor have the rows that stand in the bank then
  pub cut-unset : AreOpen after recorded
  cut-unset = record {
    queued = λ row there. kept-open clock.tick clock.bank.waiting results row apart.waiting_apart c.unset.waiting (apart.one_place row there) (c.unset.queued row there);
    waiting = λ row there. absurd (false≢true there);
  }

  -- after the bank's cut the control lines are as they were
  module _ {between : ArrayState n m} (work : Bool) (work_is : work ≡ (iterating && not stands)) (first : Touches clock.tick [] (torn_line work clock.bank.running) work old between) where
    pub cut-control : Control clock.bank.kept clock.regs between
    cut-control = (stays_law n m e clock.bank.kept clock.regs old between c.led.1.control (work-leaves c.led.0 clock old between clock.tick work c.led.1 first)).same

    -- after that of the change they hold what the bank keeps
    module _ {later : ArrayState n m} (change : Bool) (change_is : change ≡ (iterating && stands)) (second : Touches clock.tick [] (regs_torn change clock.regs) change between later)
        (held : AreHeld (broken_off clock.regs) later) where
      pub broken-control : Control clock.bank.kept (broken_off clock.regs) later
      broken-control = broken_law n m e clock.tick change clock.bank.kept clock.regs between later cut-control second held

      module _ {new : ArrayState n m} (third : Touches clock.tick (all_controls clock.bank.kept.shape) None false later new)
          (holds : (h : List (BankEvent n)) → Holds h clock.bank old → Holds (Cut work ∷ h) after between)
          (torn : IsTrue work → IfSome clock.bank.running (λ op. IsTorn op old between))
          (torn_change : IsTrue change → IsTornControl clock.regs between later) where
        read-control : Control clock.bank.kept (broken_off clock.regs) new
        read-control =
            (stays_law n m e clock.bank.kept (broken_off clock.regs) later new broken-control
            (record { lines = third.lines; controls = λ item below. third.others (clock.regs.base + item) refl })).same

        holds-then : (h : List (BankEvent n)) → Holds h clock.bank old → Holds (Cut work ∷ h) after new
        holds-then h was =
            holds-same (Cut work ∷ h) after between new (holds h was) (third.lines ∙ second.lines) (third.bounds ∙ second.bounds)
            (λ line is. third.others line refl ∙ second.others line (change-leaves clock.bank.kept clock.regs between change line cut-control is.1))

        tears-same : (change : Option Change) → (iterating && not (is_some change)) ≡ tears_bank (item_of change) clock.action
        tears-same None = and_true iterating
        tears-same (Some change) = and_false iterating

        touched : Touches clock.tick (all_controls clock.bank.kept.shape) (line_torn iterating clock.regs clock.regs.change clock.bank.running) iterating old new
        touched =
            cut_touches_law n m e clock.tick iterating (all_controls clock.bank.kept.shape) clock.regs clock.bank.running old between later new
            (subst (λ (b : Bool). Touches clock.tick [] (line_torn b clock.regs None clock.bank.running) b old between) work_is
            (subst (λ (pulsed : Option ℕ). Touches clock.tick [] pulsed work old between) (same_torn work clock.regs clock.bank.running) first))
            (subst (λ (b : Bool). Touches clock.tick [] (regs_torn b clock.regs) b between later) change_is second) third

        -- a line of the bank that is torn is the bank's own
        struck : (h : List (BankEvent n)) → Holds h clock.bank old
            → AreStruck clock.bank.kept.shape h (Cut (tears_bank (item_of clock.regs.change) clock.action)) (line_torn iterating clock.regs clock.regs.change clock.bank.running) old new
        struck h was = by clock.regs.change refl
          where
            shape : BankShape
            shape = clock.bank.kept.shape

            apart_from : (b : Bool) (change : Change) (line : ℕ) → line < controls_from shape
                → is_at (line_torn b clock.regs (Some change) clock.bank.running) line ≡ false
            apart_from false change line below = refl
            apart_from true change line below =
                let base = cut-control.own.base in
                ne_eqb (clock.regs.base + change.item) line (λ same. omega (arith, same, base, below))

            by : (change : Option Change) → clock.regs.change ≡ change
                → AreStruck shape h (Cut (tears_bank (item_of change) clock.action)) (line_torn iterating clock.regs change clock.bank.running) old new
            by None is line below hit live =
                let at : ℕ = shape.base + line in
                let same : work ≡ iterating =
                work_is ∙ ap (λ (change : Option Change). iterating && not (is_some change)) is
                ∙ and_true iterating in
                let own : is_at (torn_line work clock.bank.running) at ≡ true =
                ap (λ (pulsed : Option ℕ). is_at pulsed at) (same_torn work clock.regs clock.bank.running ∙ ap (λ (b : Bool). line_torn b clock.regs None clock.bank.running) same) ∙ hit in
                subst (λ (l : LineState n m). Strikes old.bounds (iterated h) true (old.line at) l)
                (sym (third.others at refl ∙ second.others at (change-leaves clock.bank.kept clock.regs between change at cut-control (omega (arith, below)))))
                (work-struck h clock.bank old between work was torn line below own live)
            by (Some one) is line below hit live = absurd (false≢true (sym (apart_from iterating one (shape.base + line) (omega (arith, below))) ∙ hit))

        -- the control line that is torn is so by the writing of the change that stands
        torn_control : TearsControl clock.regs (line_torn iterating clock.regs clock.regs.change clock.bank.running) old new
        torn_control =
            tears-control iterating clock.regs clock.bank.running old between later new c.led.1.control.item
            (λ on some. torn_change (change_is ∙ ap (λ (b : Bool). b && stands) on ∙ some))
            (work-leaves c.led.0 clock old between clock.tick work c.led.1 first).controls first.bounds (λ line. third.others line refl)

        -- each history that led to the clock goes on with the cut
        pub cut-extends : (xs : List (TimedEvent n m)) → Leads xs clock old
            → Extends xs (cut xs clock new ∷ []) clock (after_cut clock after) old new results recorded
        cut-extends xs leads = record {
          leads = ends.leads;
          shape = refl;
          pace = refl;
          adds = ends.adds;
          rows = lost-rows clock.tick (rows_of clock.bank.waiting) results;
          outcomes = λ row there.
              lost-in clock.tick clock.bank.waiting results row apart.waiting_apart c.unset.waiting there
              ∙ ap (λ (b : Bool). unwrap_or (if b then Some (out.Lost clock.tick) else None) (outcome_in results row))
              (ap (λ (ws : List (Waiting n)). has_waiting ws row) leads.holds.waiting ∙ same_wait n (waits clock.bank.kept.shape (core xs)) row);
        }
          where
            ends : CutEnds clock.bank.kept.shape xs (cut xs clock new) (after_cut clock after) old new
            ends =
                cut_ends_law n m e iterating xs clock after old new leads c.fit refl
                (subst (λ (b : Bool). Holds (Cut b ∷ core xs) after new) (work_is ∙ tears-same clock.regs.change) (holds-then (core xs) leads.holds)) refl refl refl read-control touched (struck (core xs) leads.holds) torn_control

        -- each row that neither stood in the queue nor waited keeps its outcome
        pub cut-others : LeavesOthers clock.bank results recorded
        cut-others row there unqueued unawaited =
            let extends = cut-extends c.led.0 c.led.1 in
            extends.outcomes row there
            ∙ other_rows_law n m e row (cut c.led.0 clock new ∷ []) c.led.0 clock old (outcome_in results) c.led.1 extends.leads.lawful unqueued unawaited refl

-- what a cut promises of every history that led to the clock
abbrev pub CutExtends : {n m e : ℕ} → ClockState n m e → ClockState n m e → ArrayState n m → ArrayState n m → List (Outcome n) → List (Outcome n) → Type 0
CutExtends {n} {m} clock new before after results recorded =
    (xs : List (TimedEvent n m)) → Leads xs clock before → Extends xs (cut xs clock after ∷ []) clock new before after results recorded
