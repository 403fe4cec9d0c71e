-- A power cut and a cancel, told by what the bank and the control lines keep.
use Rattle.std.proofs.Common.{arith, ◌≡◌, ◌⊎◌, inl, inr, ℕ, ◌+◌, ◌<◌, ◌||◌, not, is_some, Bool, true, false, cond, List, [], ◌∷◌, Option, Some, None, refl, sym, ap, subst, ◌∙◌}
use Rattle.std.specs.Prelude.{IsTrue, IfSome}
use Rattle.cell_rows.specs.Device.{ArrayState}
use Rattle.bank_shape.specs.{declared.BankShape.BankShape, declared.clock.Action.Action, declared.clock.Doing.Doing, declared.clock.Doing.TheVariants.Iterating}
use Rattle.bank_model.specs.{Answers.{MayAll, MayHappen}, Changes.{line_of_change, all_controls}, Events.{BankEvent, Cut}, History.in_progress, Running.{busy_by, tears_bank}}
use Rattle.bank_model.specs.{Sensing.{is_at, most_steps, pulsed_by, torn_control, kept_pulsed}, Timing.{KeepCut, TimedEvent, core, same_doing, is_doing}}
use Rattle.bank_model.specs.Touching.{Touches, AreStruck}
use Rattle.reg_lines.specs.{Keeping.IsTorn, Regs.RegsState, declared.Change.Change}
use Rattle.program_verify.specs.Programming.{IsTear}
use Rattle.register_laws.specs.Telling.{item_of}
use Rattle.bank_invariant.specs.{Holds.Holds, State.{BankState, Operation}}
use Rattle.clock_laws.specs.{Actions.{torn_line, CutEndsLaw, CancelEndsLaw, KeepCancelEndsLaw}, Completing.line_kept, Cutting.{tears_now, torn_now, cut, cancel, keep_cancel}}
use Rattle.clock_laws.{specs.Fitting.{Fits, IsFit}, specs.Leads.Leads, specs.State.ClockState, specs.Tearing.TearsControl, proofs.Controls.change-known}
use Rattle.clock_laws.proofs.{Cutting.{power_cut_law, cancel_law, keep_cancel_law}, Ending.op-target, Extending.one_added_law, Keeping.line_known}
use Rattle.clock_laws.proofs.Ranges.{pulsed-in, torn-in, kept-pulsed-in}

-- an action that iterates has a line write in progress, of the change or of the bank
fits_some : {n m e : ℕ} (bank : BankState n m e) (regs : RegsState n m e) (action : Option Action) → IsFit bank regs action → is_doing Iterating action ≡ true
    → (is_some regs.change ≡ true) ⊎ (is_some bank.running ≡ true)
fits_some bank regs None fit is = absurd (cc)
fits_some bank regs (Some action) fit is = by action.doing fit is
  where
    own : (change : Option Change) → busy_by (item_of change) (is_some regs.writer) (is_some bank.running) ≡ true → (is_some change ≡ true) ⊎ (is_some bank.running ≡ true)
    own None busy = inr busy
    own (Some change) busy = inl refl

    by : (doing : Doing) → Fits bank regs doing → same_doing Iterating doing ≡ true → (is_some regs.change ≡ true) ⊎ (is_some bank.running ≡ true)
    by doing fit is = grind arith

-- Cuts

module _ {n m e : ℕ} (xs : List (TimedEvent n m)) (clock : ClockState n m e) (old : ArrayState n m) (leads : Leads xs clock old) where
  -- the line that a cut tears is that of the history
  torn : (tearing : Bool) (r : Option (Operation n m e)) → clock.bank.running ≡ r → clock.regs.change ≡ None → IsTrue (not tearing || in_progress (core xs))
      → torn_line tearing clock.regs None r ≡ pulsed_by clock.bank.kept.shape (core xs) None (Cut tearing)
  torn true (Some op) is none may = ap (λ line. Some line) (op-target xs clock old leads op is)
  torn true None is none may = let no : in_progress (core xs) ≡ false = sym leads.holds.running ∙ ap (λ (r : Option (Operation n m e)). is_some r) is in absurd (cc)
  torn false (Some op) is none may = refl
  torn false None is none may = refl

  torn_change : (tearing : Bool) (change : Change) (r : Option (Operation n m e))
      → torn_line tearing clock.regs (Some change) r ≡ kept_pulsed (line_of_change clock.bank.kept.shape (item_of (Some change))) (KeepCut tearing)
  torn_change true change r = ap (λ base. Some (base + change.item)) leads.control.own.base
  torn_change false change r = refl

  -- where no change stands, and where one does
  torn_by_change : (change : Option Change) → clock.regs.change ≡ change
      → MayHappen clock.bank.kept.shape (core xs) (most_steps e) (Cut (tears_bank (item_of change) clock.action))
      → torn_line (is_doing Iterating clock.action) clock.regs change clock.bank.running
      ≡ pulsed_by clock.bank.kept.shape (core xs) (torn_control clock.bank.kept.shape (item_of change) clock.action) (Cut (tears_bank (item_of change) clock.action))
  torn_by_change None is may =
      torn (is_doing Iterating clock.action) clock.bank.running refl is may
      ∙ ap (λ torn. pulsed_by clock.bank.kept.shape (core xs) torn (Cut (is_doing Iterating clock.action))) (sym (none_torn (is_doing Iterating clock.action)))
    where
      none_torn : (b : Bool) → cond b (line_of_change clock.bank.kept.shape None) None ≡ None
      none_torn b = grind arith
  torn_by_change (Some change) is may = by (is_doing Iterating clock.action)
    where
      by : (b : Bool) → torn_line b clock.regs (Some change) clock.bank.running ≡ cond b (line_of_change clock.bank.kept.shape (item_of (Some change))) None
      by true = torn_change true change clock.bank.running
      by false = refl

-- a cut tears exactly where it pulses a line
torn_some : {n m e : ℕ} (tearing : Bool) (regs : RegsState n m e) (change : Option Change) (r : Option (Operation n m e))
    → (tearing ≡ true → (is_some change ≡ true) ⊎ (is_some r ≡ true)) → tearing ≡ is_some (torn_line tearing regs change r)
torn_some true regs (Some change) r some = refl
torn_some true regs None (Some op) some = refl
torn_some true regs None None some = absurd (by (some refl))
  where
    by : (false ≡ true) ⊎ (false ≡ true) → ⊥
    by x0 = grind arith
torn_some false regs change r some = refl

pub cut_ends_law : CutEndsLaw
cut_ends_law n m e tearing xs clock bank old new leads fit tears holds shape stopped taken control touches struck tears_control =
    let event : BankEvent n = Cut (tears_now clock) in
    let past : MayAll clock.bank.kept.shape (most_steps e) (event ∷ core xs) = subst (λ (shape : BankShape). MayAll shape (most_steps e) (event ∷ core xs)) shape holds.past in
    let pulsed : torn_line tearing clock.regs clock.regs.change clock.bank.running ≡ torn_now xs clock =
    ap (λ b. torn_line b clock.regs clock.regs.change clock.bank.running) tears ∙ torn_by_change xs clock old leads clock.regs.change refl past.0 in
    let touched : Touches clock.tick (all_controls clock.bank.kept.shape) (torn_now xs clock) tearing old new =
    subst (λ (pulsed : Option ℕ). Touches clock.tick (all_controls clock.bank.kept.shape) pulsed tearing old new) pulsed touches in
    record {
      leads = power_cut_law n m e xs clock bank old new leads fit holds shape stopped taken control
          (subst (λ (tearing : Bool). Touches clock.tick (all_controls clock.bank.kept.shape) (torn_now xs clock) tearing old new) tears touched)
          (subst (λ (pulsed : Option ℕ). AreStruck clock.bank.kept.shape (core xs) event pulsed old new) pulsed struck)
          (subst (λ (pulsed : Option ℕ). TearsControl clock.regs pulsed old new) pulsed tears_control);
      adds =
          one_added_law n m clock.bank.kept.shape (cut xs clock new) (all_controls clock.bank.kept.shape) tearing old new refl
          (pulsed-in (core xs) clock.bank old leads.holds (torn_control clock.bank.kept.shape (item_of clock.regs.change) clock.action) event
          (torn-in clock.bank.kept.shape (item_of clock.regs.change) clock.action (change-known clock.bank.kept clock.regs leads.control)))
          (torn_some tearing clock.regs clock.regs.change clock.bank.running (λ is. fits_some clock.bank clock.regs clock.action fit (sym tears ∙ is)) ∙ ap (λ (line : Option ℕ). is_some line) pulsed) touched;
    }

pub cancel_ends_law : CancelEndsLaw
cancel_ends_law n m e line tearing xs clock bank old new leads would none tears holds shape stopped taken control touches struck =
    let event : BankEvent n = Cut tearing in
    let past : MayAll clock.bank.kept.shape (most_steps e) (event ∷ core xs) = subst (λ (shape : BankShape). MayAll shape (most_steps e) (event ∷ core xs)) shape holds.past in
    let own : Option ℕ = pulsed_by clock.bank.kept.shape (core xs) None event in
    let pulsed : torn_line tearing clock.regs clock.regs.change clock.bank.running ≡ own =
    ap (λ (change : Option Change). torn_line tearing clock.regs change clock.bank.running) none ∙ torn xs clock old leads tearing clock.bank.running refl none past.0 in
    let touched : Touches clock.tick [] own tearing old new = subst (λ (pulsed : Option ℕ). Touches clock.tick [] pulsed tearing old new) pulsed touches in
    let now : Bool = is_doing Iterating clock.action in
    record {
      reaches =
          cancel_law n m e line xs clock bank old new leads would none (subst (λ (tearing : Bool). Holds (Cut tearing ∷ core xs) bank new) tears holds) shape stopped taken control
          (subst (λ (b : Bool). Touches clock.tick [] (pulsed_by clock.bank.kept.shape (core xs) None (Cut b)) b old new) tears touched)
          (subst (λ (b : Bool). AreStruck clock.bank.kept.shape (core xs) (Cut b) (pulsed_by clock.bank.kept.shape (core xs) None (Cut b)) old new) tears
          (subst (λ (pulsed : Option ℕ). AreStruck clock.bank.kept.shape (core xs) event pulsed old new) pulsed struck));
      adds =
          one_added_law n m clock.bank.kept.shape (cancel xs clock) [] now old new refl
          (pulsed-in (core xs) clock.bank old leads.holds None (Cut now) tt)
          (by now) (subst (λ (b : Bool). Touches clock.tick [] (pulsed_by clock.bank.kept.shape (core xs) None (Cut b)) b old new) tears touched);
    }
  where
    by : (b : Bool) → b ≡ is_some (pulsed_by clock.bank.kept.shape (core xs) None (Cut b))
    by b = grind arith

pub keep_cancel_ends_law : KeepCancelEndsLaw
keep_cancel_ends_law n m e line tearing xs clock old new leads would stands fit tears control touches tears_control =
    let now : Bool = is_doing Iterating clock.action in
    let pulsed : torn_line tearing clock.regs clock.regs.change clock.bank.running ≡ kept_pulsed (line_kept clock) (KeepCut tearing) = torn_so clock.regs.change stands in
    let touched : Touches clock.tick [] (kept_pulsed (line_kept clock) (KeepCut now)) now old new =
    subst (λ (b : Bool). Touches clock.tick [] (kept_pulsed (line_kept clock) (KeepCut b)) b old new) tears
    (subst (λ (pulsed : Option ℕ). Touches clock.tick [] pulsed tearing old new) pulsed touches) in
    record {
      reaches = keep_cancel_law n m e line xs clock old new leads would stands fit control touched
          (subst (λ (b : Bool). TearsControl clock.regs (kept_pulsed (line_kept clock) (KeepCut b)) old new) tears
          (subst (λ (pulsed : Option ℕ). TearsControl clock.regs pulsed old new) pulsed tears_control));
      adds =
          one_added_law n m clock.bank.kept.shape (keep_cancel clock) [] now old new refl
          (kept-pulsed-in clock.bank.kept.shape (line_kept clock) (KeepCut now) (line_known xs clock old leads)) (by now clock.regs.change stands) touched;
    }
  where
    torn_so : (change : Option Change) → is_some change ≡ true
        → torn_line tearing clock.regs change clock.bank.running ≡ kept_pulsed (line_of_change clock.bank.kept.shape (item_of change)) (KeepCut tearing)
    torn_so None is = absurd (cc)
    torn_so (Some change) is = torn_change xs clock old leads tearing change clock.bank.running

    by : (b : Bool) (change : Option Change) → is_some change ≡ true → b ≡ is_some (kept_pulsed (line_of_change clock.bank.kept.shape (item_of change)) (KeepCut b))
    by b change is = grind arith

-- where the calls of a cut tear the control line of the change that stands as its writing does, the cut does
pub tears-control : {n m e : ℕ} (tearing : Bool) (regs : RegsState n m e) (running : Option (Operation n m e)) (old before behind new : ArrayState n m)
    → IfSome regs.change (λ change. change.item < regs.items) → (IsTrue tearing → IsTrue (is_some regs.change) → IsTorn regs before behind)
    → ((item : ℕ) → item < regs.items → before.line (regs.base + item) ≡ old.line (regs.base + item)) → before.bounds ≡ old.bounds
    → ((line : ℕ) → new.line line ≡ behind.line line) → TearsControl regs (torn_line tearing regs regs.change running) old new
tears-control tearing regs running old before behind new item torn first bounds last change stands hit =
    let tear = torn (on tearing regs.change hit) (ap (λ (o : Option Change). is_some o) stands) in
    let same : tear.change ≡ change = cc (stands, tear.stands) in (
      tear.writer,
      tear.runs,
      record {
        before = before;
        behind = behind;
        tear = subst (λ (c : Change). IsTear (regs.base + c.item) tear.writer.prog before behind) same tear.tear;
        first = first change.item (subst (λ (o : Option Change). IfSome o (λ c. c.item < regs.items)) stands item);
        last = last (regs.base + change.item);
        bounds = bounds;
      },
    )
  where
    on : (b : Bool) (c : Option Change) → is_at (torn_line b regs c running) (regs.base + change.item) ≡ true → b ≡ true
    on true c hit = refl
    on false c hit = absurd (cc (hit))
