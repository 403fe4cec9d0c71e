-- The begin of a line write ends.
use Rattle.std.proofs.Common.{◌≡◌, ℕ, ◌+◌, ◌<◌, ◌≤◌, ◌&&◌, not, Bool, true, false, List, ◌∷◌, Option, Some, None, is_some, refl, sym, ap, subst, ◌∙◌}
use Rattle.std.{specs.Prelude.IsTrue, proofs.lemmas.Bool.false≢true}
use Rattle.cell_rows.specs.Device.{ArrayState, LineState}
use Rattle.ecp_line.specs.{ArrayLines.decoded, Reading.decode}
use Rattle.result_rows.specs.declared.Outcome.{Outcome}
use Rattle.bank_shape.specs.{declared.Work.Work, declared.answer.Step.Step, declared.clock.Action.Action, declared.clock.Doing.Doing, declared.clock.Doing.TheVariants.Beginning}
use Rattle.line_writer.specs.{Writing.IsProgress, declared.writer.LineWriter.LineWriter, declared.writer.Progress.Progress}
use Rattle.line_writer.specs.declared.writer.Progress.TheVariants as progress
use Rattle.power_recovery.specs.Kept.{next_work}
use Rattle.bank_model.specs.{Events.{BankEvent, Begin}, Timing.{TimedEvent, core, ends}, Touching.Touches}
use Rattle.bank_invariant.specs.{Beginning.lines_sensed, Holds.Holds, State.{BankState, is_free, may_begin}}
use Rattle.bank_core.specs.{Beginning.IsBegin, Stepping.step_from}
use Rattle.clock_laws.specs.{Actions.{IsCompletion, GoesOn, LeavesBegun}, Completing.after_action, Fitting.{Fits, IsFit}, Leads.Leads, Putting.{item_by, put_if}}
use Rattle.clock_laws.{specs.State.{ClockState, next_action}, proofs.Ending.begin_ends_law, proofs.Fitting.needs_law, proofs.Others.apart_law, proofs.Putting.no_writer}
use Rattle.reg_lines.specs.Regs.{IsWritingOf}
use Rattle.bank_timing.{specs.Completing.{Completes, step_recorded, item_from}, specs.Extending.AreOpen, proofs.Acting.{next-fits, next-ends}, proofs.Changes.item-named}
use Rattle.bank_timing.proofs.LineWrites.{Steps, step-completes, begin-steps, begin-leaves}

-- where a line write may be begun, none is in progress, and the work is free
free-parts : {A : Type 0} (r : Option A) (free : Bool) → (not (is_some r) && free) ≡ true → (r ≡ None) × (free ≡ true)
free-parts None free may = (refl, may)
free-parts (Some x) free may = absurd (false≢true may)

-- a line is read as what was stored in it
pub stored-reads : {n m e : ℕ} (writer : LineWriter n m e) (line : LineState n m) (p : Progress) → IsProgress writer line p → p ≡ progress.Stored → decode e line.held ≡ writer.bytes
stored-reads writer line progress.More own is = absurd (cc)
stored-reads writer line progress.Stored own is = own.2
stored-reads writer line (progress.Worn cause) own is = absurd (cc)

module _ {n m e : ℕ} (clock : ClockState n m e) (action : Action) (next : next_action clock ≡ Some action) (doing : action.doing ≡ Beginning) (fit : IsFit clock.bank clock.regs clock.action) (alone : clock.regs.change ≡ None) where
  pub begin-ready : IsTrue (may_begin clock.bank)
  begin-ready = (needs_law n m e clock.bank clock.regs).begins alone (subst (λ (d : Doing). Fits clock.bank clock.regs d) doing (next-fits clock action next fit))

  module _ (old new : ArrayState n m) (results : List (Outcome n)) (answer : Step) (bank : BankState n m e) (led : (xs : List (TimedEvent n m)) × Leads xs clock old)
      (unset : AreOpen clock.bank results) (begins : IsBegin clock.bank bank answer old new) where
    idle : clock.regs.writer ≡ None
    idle = no_writer clock.regs (λ writer change. IsWritingOf writer (old.line (clock.regs.base + change.item)) change) led.1.control.held.writing alone

    pub begun-steps : Steps clock.bank clock.regs bank answer (ends clock.pace action) results
    begun-steps =
        let free = free-parts clock.bank.running (is_free clock.bank.waiting (next_work clock.bank.kept)) begin-ready in
        let ready : is_free clock.bank.waiting begins.op.work ≡ true = ap (λ work. is_free clock.bank.waiting work) begins.work ∙ free.1 in
        subst (λ (a : Step). Steps clock.bank clock.regs bank a (ends clock.pace action) results) (sym begins.is)
        (subst (λ (b : BankState n m e). Steps clock.bank clock.regs b (step_from clock.bank.kept begins.op begins.op.writer.progress) (ends clock.pace action) results) (sym begins.leaves)
        (begin-steps clock.bank old (ends clock.pace action) results begins.op.target begins.op.writer led.1.holds.kept free.0 (apart_law n m e led.0 clock old led.1) unset begins.few clock.regs alone idle
        begins.op.work begins.op.writer.progress (sym begins.work) ready begins.begun))

    pub begun-whole : 1 ≤ clock.pace.read → 1 ≤ clock.pace.iter → Touches (ends clock.pace action) (lines_sensed clock.bank.kept (next_work clock.bank.kept)) None false old new
        → ((h : List (BankEvent n)) → Holds h clock.bank old → Holds (Begin answer ∷ h) bank new)
        → Completes clock (after_action clock bank (put_if (item_by clock.bank.kept answer) bank.kept clock.regs) action (Begin answer)) action old new results (step_recorded answer (ends clock.pace action) results)
    begun-whole read iter touches holds =
        step-completes clock action answer bank old new results (Begin answer) (λ ws tick row. refl) refl later begun-steps goes
      where
        later : clock.tick < ends clock.pace action
        later = next-ends clock action next led.0 old led.1 read iter

        free : (clock.bank.running ≡ None) × (is_free clock.bank.waiting (next_work clock.bank.kept) ≡ true)
        free = free-parts clock.bank.running (is_free clock.bank.waiting (next_work clock.bank.kept)) begin-ready

        ready : is_free clock.bank.waiting begins.op.work ≡ true
        ready = ap (λ work. is_free clock.bank.waiting work) begins.work ∙ free.1

        reads : begins.op.writer.progress ≡ progress.Stored → decoded e old begins.op.target ≡ begins.op.writer.bytes
        reads is =
            ap (λ (line : LineState n m). decode e line.held) (sym (touches.others begins.op.target refl))
            ∙ stored-reads begins.op.writer (new.line begins.op.target) begins.op.writer.progress begins.writes.answer is

        leaves : LeavesBegun {e = e} clock.bank.kept begins.op.work old bank.running answer
        leaves =
            subst (λ (a : Step). LeavesBegun {e = e} clock.bank.kept begins.op.work old bank.running a) (sym begins.is)
            (subst (λ (b : BankState n m e). LeavesBegun {e = e} clock.bank.kept begins.op.work old b.running (step_from clock.bank.kept begins.op begins.op.writer.progress)) (sym begins.leaves)
            (begin-leaves clock.bank old (ends clock.pace action) results begins.op.target begins.op.writer led.1.holds.kept free.0 (apart_law n m e led.0 clock old led.1) unset begins.few clock.regs alone idle
            begins.op.work begins.op.writer.progress (sym begins.work) ready begins.begun begins.bytes begins.target reads))

        goes : (xs : List (TimedEvent n m)) → Leads xs clock old → GoesOn xs clock bank (put_if (item_by clock.bank.kept answer) bank.kept clock.regs) (Begin answer) action old new
        goes xs leads =
            let end : IsCompletion xs clock bank (put_if (item_by clock.bank.kept answer) bank.kept clock.regs) (Begin answer) action (lines_sensed clock.bank.kept begins.op.work) None old new =
            record {
              next = next;
              doing = doing;
              later = later;
              alone = alone;
              put = refl;
              control = begun-steps.puts.control old new leads.control alone (record { lines = touches.lines; controls = λ item below. touches.others (clock.regs.base + item) refl });
              holds = holds (core xs) leads.holds;
              shape = begun-steps.shape;
              taken = begun-steps.lost ∙ leads.taken;
              touches = subst (λ (work : Work). Touches (ends clock.pace action) (lines_sensed clock.bank.kept work) None false old new) (sym begins.work) touches;
              struck = λ line below is live. cc;
            } in
            begin_ends_law n m e answer action begins.op.work xs clock bank (put_if (item_by clock.bank.kept answer) bank.kept clock.regs) old new leads (sym begins.work) end leaves

    -- the item that the code names is that which the step changes, and it has a control line
    pub begun-item : item_from bank.kept.shape (next_work clock.bank.kept) answer ≡ item_by clock.bank.kept answer
    begun-item =
        ap (λ shape. item_from shape (next_work clock.bank.kept) answer) begun-steps.shape
        ∙ subst (λ (a : Step). item_from clock.bank.kept.shape (next_work clock.bank.kept) a ≡ item_by clock.bank.kept a) (sym begins.is)
        (item-named clock.bank.kept begins.op begins.op.writer.progress (next_work clock.bank.kept) begins.work refl)
