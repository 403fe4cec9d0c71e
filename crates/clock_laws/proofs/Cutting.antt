-- A power cut, and a cancel with its read.
use Rattle.std.proofs.Common.{arith, ◌≡◌, ℕ, ◌+◌, ◌<◌, ◌&&◌, nat_lt, Bool, true, false, cond, List, [], ◌∷◌, Option, Some, None, refl, sym, ap, subst, ◌∙◌}
use Rattle.std.specs.Prelude.{IfSome, is_some}
use Rattle.bank_shape.specs.{Pausing.{is_cancelling, most_cancels}, declared.BankShape.BankShape, declared.clock.Action.Action, declared.clock.Doing.Doing}
use Rattle.bank_shape.specs.declared.clock.Doing.TheVariants.{Iterating}
use Rattle.bank_shape.specs.declared.answer.ReadAnswer.TheVariants as came
use Rattle.bank_model.specs.{Changes.{change_after, change_by, keeping_after, keeping_by, halted_after, halted_by, line_of_change, all_controls}, Events.{BankEvent, Read, Cut}}
use Rattle.bank_model.specs.{History.waits, Lawful.would_cancel, Running.{busy_by, drops_begin, running_at, tears_bank, cancels_after}}
use Rattle.bank_model.specs.Sensing.{pulsed_by, torn_control, kept_sensed, kept_pulsed}
use Rattle.bank_model.specs.Timing.{TimedEvent, Happens, Core, Regs, KeepCut, ends, same_doing, is_doing, is_empty, core}
use Rattle.bank_invariant.specs.State.{BankState, Operation}
use Rattle.reg_lines.specs.{Keeping.broken_off, Regs.RegsState, declared.Change.Change}
use Rattle.register_laws.specs.Telling.{AreTold, item_of}
use Rattle.clock_laws.specs.{Arriving.{drops, action_after_read}, Completing.line_kept}
use Rattle.clock_laws.specs.{Cutting.{PowerCutLaw, CancelLaw, KeepCancelLaw, CancelledReadLaw, tears_now, torn_now, cut, cancel, keep_cancel}, Fitting.{Fits, IsFit}}
use Rattle.clock_laws.{specs.Leads.{Reaches, CopiesWhatItSensed}, proofs.Arriving.{arrives, goes_on_with, off_idle, copies-on, read-to_come, untouched}}
use Rattle.clock_laws.proofs.{Completing.{kept-holds, copies-kept}, Controls.control-kept, Putting.{told-on, put-told}}
use Rattle.clock_laws.proofs.Stepping.{follows, uncancelled, stepped, leads-reaches, bank-reaches, bank-leads, kept-reaches}

-- Cuts

-- a change's iteration runs only while its writing is in progress
iterates : {n m e : ℕ} (shape : BankShape) (bank : BankState n m e) (regs : RegsState n m e) (action : Option Action) → IsFit bank regs action → is_doing Iterating action ≡ true
    → is_some (line_of_change shape (item_of regs.change)) ≡ true → is_some regs.writer ≡ true
iterates shape bank regs None fit is some = absurd (cc)
iterates {n} {m} {e} shape bank regs (Some action) fit is some = by action.doing fit is
  where
    own : (change : Option Change) (writing busy : Bool) → busy_by (item_of change) writing busy ≡ true → is_some (line_of_change shape (item_of change)) ≡ true → writing ≡ true
    own change writing busy fit some = grind arith

    by : (doing : Doing) → Fits bank regs doing → same_doing Iterating doing ≡ true → is_some regs.writer ≡ true
    by doing fit is = grind arith

torn-keeps : {n m e : ℕ} (shape : BankShape) (bank : BankState n m e) (regs : RegsState n m e) (action : Option Action) → IsFit bank regs action
    → is_some (torn_control shape (item_of regs.change) action) ≡ true → is_some regs.writer ≡ true
torn-keeps shape bank regs action fit some = by (is_doing Iterating action) refl some
  where
    by : (b : Bool) → is_doing Iterating action ≡ b → is_some (cond b (line_of_change shape (item_of regs.change)) None) ≡ true → is_some regs.writer ≡ true
    by true is some = iterates shape bank regs action fit is some
    by false is some = absurd (cc)

none-torn : (shape : BankShape) (change : Option ℕ) (action : Option Action) → change ≡ None → torn_control shape change action ≡ None
none-torn shape None action none = by (is_doing Iterating action)
  where
    by : (b : Bool) → cond b (line_of_change shape None) None ≡ None
    by b = grind arith
none-torn shape (Some item) action none = absurd (cc)

-- a change stays, and is written no more, after a cut
told-cut : {n m e : ℕ} (shape : BankShape) (xs : List (TimedEvent n m)) (x : TimedEvent n m) (regs : RegsState n m e) (h : Happens n) → x.happens ≡ h
    → change_by shape (core xs) h (change_after shape xs) ≡ change_after shape xs → keeping_by h (keeping_after xs) ≡ false → halted_by h (halted_after xs) ≡ halted_after xs
    → AreTold shape xs regs → AreTold shape (x ∷ xs) (broken_off regs)
told-cut {n} shape xs x regs h is change keeping halted told = record {
  change = told.change ∙ sym change ∙ ap (λ (h : Happens n). change_by shape (core xs) h (change_after shape xs)) (sym is);
  writing = sym keeping ∙ ap (λ (h : Happens n). keeping_by h (keeping_after xs)) (sym is);
  halted = told.halted ∙ sym halted ∙ ap (λ (h : Happens n). halted_by h (halted_after xs)) (sym is);
  steps = tt;
}

pub power_cut_law : PowerCutLaw
power_cut_law n m e xs clock bank old new leads fit holds shape stopped taken control touches struck tears =
    let kind : BankShape = clock.bank.kept.shape in
    let event : BankEvent n = Cut (tears_now clock) in
    let x : TimedEvent n m = cut xs clock new in
    let runs : Option Action = running_at kind clock.pace xs clock.tick in
    bank-leads xs clock bank (broken_off clock.regs) event clock.tick clock.tick None clock.arrivals 0 (is_doing Iterating clock.action) (all_controls kind) (torn_now xs clock) old new (leads-reaches xs clock old leads)
    (record {
      asked = tt;
      on_time = (
        arrives xs clock old leads x refl refl,
        ap (λ change. tears_bank change clock.action) leads.regs.change ∙ ap (λ action. tears_bank (change_after kind xs) action) leads.told.runs,
        λ is. absurd (cc),
        λ is. absurd (cc),
        λ torn.
            sym leads.regs.writing
            ∙ torn-keeps kind clock.bank clock.regs clock.action fit
            (ap (λ change. is_some (torn_control kind change clock.action)) leads.regs.change ∙ ap (λ action. is_some (torn_control kind (change_after kind xs) action)) leads.told.runs ∙ torn),
      );
      behind = follows kind clock.pace xs clock.tick event leads.told.whole;
      senses = refl;
      pulses =
          ap (λ change. pulsed_by kind (core xs) (torn_control kind change clock.action) event) leads.regs.change
          ∙ ap (λ action. pulsed_by kind (core xs) (torn_control kind (change_after kind xs) action) event) leads.told.runs;
      right = tt;
      touches = touches;
      struck = struck;
    })
    tears
    (record {
      holds = holds;
      shape = shape;
      taken = taken;
      runs = refl;
      to_come = tt;
      arrived = leads.told.arrived;
      cancels = refl;
      copying = subst (λ (r : Option (Operation n m e)). IfSome r (CopiesWhatItSensed (x ∷ xs))) (sym stopped) tt;
      told = told-cut kind xs x clock.regs (Core event) refl refl refl refl leads.regs;
      control = control;
    })

-- Cancels

pub cancel_law : CancelLaw
cancel_law n m e line xs clock bank old new leads would none holds shape stopped taken control touches struck =
    let kind : BankShape = clock.bank.kept.shape in
    let tearing : Bool = is_doing Iterating clock.action in
    let event : BankEvent n = Cut tearing in
    let x : TimedEvent n m = cancel xs clock in
    let change : change_after kind xs ≡ None = sym leads.regs.change ∙ ap item_of none in
    let torn : torn_control kind (change_after kind xs) (running_at kind clock.pace xs clock.tick) ≡ None = none-torn kind (change_after kind xs) (running_at kind clock.pace xs clock.tick) change in
    bank-reaches xs clock bank clock.regs event clock.tick clock.tick None clock.arrivals (clock.cancels + 1) true tearing [] (pulsed_by kind (core xs) None event) old new (leads-reaches xs clock old leads)
    (record {
      asked = tt;
      on_time = (
        arrives xs clock old leads x refl refl,
        ap (λ change. tears_bank change clock.action) (sym change) ∙ ap (λ action. tears_bank (change_after kind xs) action) leads.told.runs,
        λ is. goes_on_with xs clock old leads line would,
        λ is. change,
        λ some. absurd (cc (some, torn)),
      );
      behind = follows kind clock.pace xs clock.tick event leads.told.whole;
      senses = refl;
      pulses = ap (λ torn. pulsed_by kind (core xs) torn event) (sym torn);
      right = tt;
      touches = touches;
      struck = struck;
    })
    (λ change stands. absurd (cc (stands, none)))
    (record {
      holds = holds;
      shape = shape;
      taken = taken;
      runs = refl;
      to_come = tt;
      arrived = leads.told.arrived;
      cancels = refl;
      copying = subst (λ (r : Option (Operation n m e)). IfSome r (CopiesWhatItSensed (x ∷ xs))) (sym stopped) tt;
      told = put-told xs clock old leads None clock.bank.kept x (Core event) refl none leads.regs.change refl refl;
      control = control;
    })

pub keep_cancel_law : KeepCancelLaw
keep_cancel_law n m e line xs clock old new leads would stands fit control touches torn =
    let kind : BankShape = clock.bank.kept.shape in
    let tearing : Bool = is_doing Iterating clock.action in
    let x : TimedEvent n m = keep_cancel clock in
    let r : Reaches xs clock old = leads-reaches xs clock old leads in
    kept-reaches xs clock clock.bank (broken_off clock.regs) (KeepCut tearing) clock.tick clock.tick None clock.arrivals (clock.cancels + 1) true tearing [] (kept_pulsed (line_kept clock) (KeepCut tearing)) old new r
    (record {
      stands = stands;
      may = λ tears. sym leads.regs.writing ∙ iterates kind clock.bank clock.regs clock.action fit tears (some clock.regs.change stands);
      on_time = (
        arrives xs clock old leads x refl refl,
        ap (λ action. is_doing Iterating action) leads.told.runs,
        refl,
        goes_on_with xs clock old leads line would,
      );
      behind = uncancelled kind clock.pace xs leads.told.whole;
      senses = none_sensed (line_kept clock) tearing;
      pulses = refl;
      touches = touches;
    })
    torn
    (record {
      holds = kept-holds xs clock (KeepCut tearing) clock.tick [] tearing old new r touches;
      shape = refl;
      taken = leads.taken;
      runs = refl;
      to_come = tt;
      arrived = leads.told.arrived;
      cancels = refl;
      copying = copies-kept xs x (KeepCut tearing) clock.bank.running refl leads.copying;
      told = told-cut kind xs x clock.regs (Regs (KeepCut tearing)) refl refl refl refl leads.regs;
      control = control;
    })
  where
    none_sensed : (line : Option ℕ) (tearing : Bool) → [] ≡ kept_sensed line (KeepCut tearing)
    none_sensed line tearing = grind arith

    some : (change : Option Change) → is_some change ≡ true → is_some (line_of_change clock.bank.kept.shape (item_of change)) ≡ true
    some change is = grind arith

pub cancelled_read_law : CancelledReadLaw
cancelled_read_law n m e row line y xs clock bank array r none at below keeps holds =
    let ys : List (TimedEvent n m) = y ∷ xs in
    let kind : BankShape = clock.bank.kept.shape in
    let event : BankEvent n = Read row line came.Waiting in
    let x : TimedEvent n m = stepped (Core event) clock.tick clock.tick [] None array in
    let runs : None ≡ running_at kind clock.pace ys clock.tick = sym none ∙ r.runs in
    bank-leads ys clock bank clock.regs event clock.tick clock.tick (action_after_read clock.bank.kept clock.regs.change line came.Waiting clock.action) clock.arrivals clock.cancels false [] None array array r
    (record {
      asked = below;
      on_time = (
        (refl, r.now, subst (λ (runs : Option Action). IfSome runs (λ a. clock.tick < ends clock.pace a)) runs tt),
        refl,
        λ not_forwarded.
            ap (λ runs. would_cancel kind (core ys) clock.pace.policy runs (cancels_after ys)) (sym runs)
            ∙ off_idle (is_cancelling clock.pace.policy) (is_empty (waits kind (core ys)) && nat_lt (cancels_after ys) most_cancels),
      );
      behind = λ is. at;
      senses = refl;
      pulses = refl;
      right = tt;
      touches = untouched clock.tick array;
      struck = λ line below is live. cc;
    })
    refl
    (record {
      holds = holds;
      shape = keeps.shape;
      taken = keeps.lost ∙ r.taken;
      runs = same (drops clock.bank.kept clock.regs.change line clock.action) clock.action none
          ∙ kept (drops_begin kind (core ys) (change_after kind ys) line (running_at kind clock.pace ys clock.tick)) (running_at kind clock.pace ys clock.tick) runs;
      to_come = read-to_come clock.bank.kept clock.regs.change line came.Waiting clock.action (λ a. clock.tick < ends clock.pace a) r.to_come;
      arrived = r.arrived;
      cancels = refl;
      copying = copies-on ys clock.bank.running bank.running x keeps.running r.copying (λ op own. own);
      told = told-on kind ys x clock.regs (Core event) refl refl refl refl refl r.regs;
      control = control-kept clock.bank.kept bank.kept clock.regs array keeps.shape keeps.items r.control;
    })
  where
    -- where no action runs, none is left
    same : (b : Bool) (action : Option Action) → action ≡ None → cond b None action ≡ None
    same true action none = refl
    same false action none = none

    kept : (b : Bool) (runs : Option Action) → None ≡ runs → None ≡ cond b None runs
    kept true runs none = refl
    kept false runs none = none
