-- An iteration of the line write in progress ends.
use Rattle.std.proofs.Common.{◌≡◌, ℕ, ◌+◌, ◌<◌, ◌≤◌, Bool, true, false, List, [], ◌∷◌, Option, Some, None, is_some, refl, sym, ap, subst, ◌∙◌}
use Rattle.std.{specs.Prelude.{IfSome, IsTrue}, proofs.lemmas.Bool.{false≢true, eqb-true}}
use Rattle.cell_rows.specs.Device.{ArrayState}
use Rattle.result_rows.specs.declared.Outcome.{Outcome}
use Rattle.bank_shape.specs.{declared.Work.Work, declared.Work.TheVariants.Nothing, declared.answer.Step.Step, declared.clock.Action.Action, declared.clock.Doing.Doing}
use Rattle.bank_shape.specs.declared.clock.Doing.TheVariants.{Iterating}
use Rattle.line_writer.specs.Orderly.{IsLive}
use Rattle.line_writer.specs.declared.writer.Progress.TheVariants as progress
use Rattle.power_recovery.specs.Kept.{next_work}
use Rattle.bank_model.specs.{Events.{BankEvent, Iterate}, History.iterated, Timing.{TimedEvent, core, ends}, Touching.{Touches, Strikes, AreStruck}}
use Rattle.bank_invariant.{specs.Holds.Holds, specs.State.{BankState, Operation}, specs.Tied.IsOf, proofs.Fine.strikes-round, proofs.Tearing.running_of}
use Rattle.ecp_line.specs.ArrayLines.{decoded}
use Rattle.bank_core.specs.Stepping.{IsIteration, step_from}
use Rattle.clock_laws.specs.{Actions.{IsCompletion, GoesOn, LeavesIterated}, Completing.after_action, Fitting.{Fits, IsFit}, Leads.Leads, Putting.{item_by, put_if}}
use Rattle.clock_laws.{specs.State.{ClockState, next_action}, proofs.Ending.iterate_ends_law, proofs.Fitting.needs_law, proofs.Others.apart_law, proofs.Putting.no_writer}
use Rattle.clock_laws.proofs.Together.{controls_stay_law}
use Rattle.reg_lines.specs.Regs.{RegsState, IsWritingOf}
use Rattle.bank_timing.{specs.Completing.{Completes, step_recorded, item_from}, specs.Extending.AreOpen, proofs.Acting.{next-fits, next-ends}, proofs.Begins.stored-reads}
use Rattle.bank_timing.proofs.{Changes.item-named, LineWrites.{Steps, step-completes, iterate-steps, iterate-leaves}}

module _ {n m e : ℕ} (clock : ClockState n m e) (action : Action) (next : next_action clock ≡ Some action) (doing : action.doing ≡ Iterating) (fit : IsFit clock.bank clock.regs clock.action) (alone : clock.regs.change ≡ None) where
  pub iterate-ready : IsTrue (is_some clock.bank.running)
  iterate-ready = (needs_law n m e clock.bank clock.regs).iterates alone (subst (λ (d : Doing). Fits clock.bank clock.regs d) doing (next-fits clock action next fit))

  module _ (old new : ArrayState n m) (results : List (Outcome n)) (answer : Step) (bank : BankState n m e) (led : (xs : List (TimedEvent n m)) × Leads xs clock old)
      (unset : AreOpen clock.bank results) where
    idle : clock.regs.writer ≡ None
    idle = no_writer clock.regs (λ writer change. IsWritingOf writer (old.line (clock.regs.base + change.item)) change) led.1.control.held.writing alone

    abbrev put-regs : RegsState n m e
    put-regs = put_if (item_by clock.bank.kept answer) bank.kept clock.regs

    module _ (op : Operation n m e) (running : clock.bank.running ≡ Some op) (iterates : IsIteration (ends clock.pace action) op clock.bank bank answer old new) where
      some-work : op.work ≡ Nothing → ⊥
      some-work is =
          subst (λ (work : Work). IsOf e clock.bank.kept old clock.bank.waiting op.writer.bytes work) is (running_of (core led.0) clock.bank old op led.1.holds running).of

      next-work : next_work clock.bank.kept ≡ op.work
      next-work = sym (running_of (core led.0) clock.bank old op led.1.holds running).next

      going : clock.bank.kept.exhausted ≡ false
      going = by clock.bank.kept.exhausted refl
        where
          by : (b : Bool) → clock.bank.kept.exhausted ≡ b → clock.bank.kept.exhausted ≡ false
          by false is = is
          by true is = absurd (some-work (sym next-work ∙ nothing is))
            where
              nothing : clock.bank.kept.exhausted ≡ true → next_work clock.bank.kept ≡ Nothing
              nothing is = rw is refl

      steps-by : Steps clock.bank clock.regs bank answer (ends clock.pace action) results
      steps-by =
          subst (λ (a : Step). Steps clock.bank clock.regs bank a (ends clock.pace action) results) (sym iterates.is)
          (subst (λ (b : BankState n m e). Steps clock.bank clock.regs b (step_from clock.bank.kept op iterates.now.writer.progress) (ends clock.pace action) results) (sym iterates.leaves)
          (iterate-steps clock.bank new (ends clock.pace action) results op.target op.writer iterates.now led.1.holds.kept going (apart_law n m e led.0 clock old led.1) unset iterates.step.fewer clock.regs alone idle
          op.work iterates.now.writer.progress next-work running some-work))

      whole-by : 1 ≤ clock.pace.read → 1 ≤ clock.pace.iter → Touches (ends clock.pace action) (op.target ∷ []) (Some op.target) false old new
          → ((h : List (BankEvent n)) → Holds h clock.bank old → Holds (Iterate answer ∷ h) bank new)
          → Completes clock (after_action clock bank put-regs action (Iterate answer)) action old new results (step_recorded answer (ends clock.pace action) results)
      whole-by read iter touches holds =
          step-completes clock action answer bank old new results (Iterate answer) (λ ws tick row. refl) refl later steps-by goes
        where
          later : clock.tick < ends clock.pace action
          later = next-ends clock action next led.0 old led.1 read iter

          reads : iterates.now.writer.progress ≡ progress.Stored → decoded e new op.target ≡ op.writer.bytes
          reads is = stored-reads iterates.now.writer (new.line op.target) iterates.now.writer.progress iterates.step.writes.answer is ∙ iterates.step.bytes

          leaves : LeavesIterated op new bank.running answer
          leaves =
              subst (λ (a : Step). LeavesIterated op new bank.running a) (sym iterates.is)
              (subst (λ (b : BankState n m e). LeavesIterated op new b.running (step_from clock.bank.kept op iterates.now.writer.progress)) (sym iterates.leaves)
              (iterate-leaves clock.bank new (ends clock.pace action) results op.target op.writer iterates.now led.1.holds.kept going (apart_law n m e led.0 clock old led.1) unset iterates.step.fewer clock.regs alone idle
              op.work iterates.now.writer.progress some-work iterates.step.work iterates.step.bytes reads))

          struck : (h : List (BankEvent n)) → Holds h clock.bank old → AreStruck clock.bank.kept.shape h (Iterate answer) (Some op.target) old new
          struck h was line below is live =
              let at : op.target ≡ clock.bank.kept.shape.base + line = eqb-true op.target (clock.bank.kept.shape.base + line) is in
              subst (λ (at : ℕ). Strikes old.bounds (iterated h) false (old.line at) (new.line at)) at
              (strikes-round (ends clock.pace action) iterates.step.round.0 h clock.bank old new op was running iterates.step.round.1
              (subst (λ (at : ℕ). IsLive (old.line at)) (sym at) live))

          goes : (xs : List (TimedEvent n m)) → Leads xs clock old → GoesOn xs clock bank put-regs (Iterate answer) action old new
          goes xs leads =
              let end : IsCompletion xs clock bank put-regs (Iterate answer) action (op.target ∷ []) (Some op.target) old new =
              record { next = next; doing = doing; later = later; alone = alone; put = refl; control = steps-by.puts.control old new leads.control alone (record { lines = touches.lines; controls = λ item below. controls_stay_law n m e (ends clock.pace action) item (op.target ∷ []) false op xs clock old new leads running (subst (λ (count : ℕ). item < count) leads.control.own.items below) touches }); holds = holds (core xs) leads.holds; shape = steps-by.shape; taken = steps-by.lost ∙ leads.taken; touches = touches; struck = struck (core xs) leads.holds } in
              iterate_ends_law n m e answer action op xs clock bank put-regs old new leads running end leaves

    pub iterated-steps : IfSome clock.bank.running (λ op. IsIteration (ends clock.pace action) op clock.bank bank answer old new) → Steps clock.bank clock.regs bank answer (ends clock.pace action) results
    iterated-steps = by clock.bank.running refl iterate-ready
      where
        by : (r : Option (Operation n m e)) → clock.bank.running ≡ r → IsTrue (is_some r) → IfSome r (λ op. IsIteration (ends clock.pace action) op clock.bank bank answer old new)
            → Steps clock.bank clock.regs bank answer (ends clock.pace action) results
        by None is some iterates = absurd (false≢true some)
        by (Some op) is some iterates = steps-by op is iterates

    -- the item that the code names is that which the step changes
    pub iterated-item : IfSome clock.bank.running (λ op. IsIteration (ends clock.pace action) op clock.bank bank answer old new)
        → item_from bank.kept.shape (next_work clock.bank.kept) answer ≡ item_by clock.bank.kept answer
    iterated-item iterates =
        ap (λ shape. item_from shape (next_work clock.bank.kept) answer) (iterated-steps iterates).shape
        ∙ by clock.bank.running refl iterate-ready iterates
      where
        by : (r : Option (Operation n m e)) → clock.bank.running ≡ r → IsTrue (is_some r) → IfSome r (λ op. IsIteration (ends clock.pace action) op clock.bank bank answer old new)
            → item_from clock.bank.kept.shape (next_work clock.bank.kept) answer ≡ item_by clock.bank.kept answer
        by None is some iterates = absurd (false≢true some)
        by (Some op) is some iterates =
            subst (λ (a : Step). item_from clock.bank.kept.shape (next_work clock.bank.kept) a ≡ item_by clock.bank.kept a) (sym iterates.is)
            (item-named clock.bank.kept op iterates.now.writer.progress (next_work clock.bank.kept) (sym (next-work op is iterates)) refl)

    pub iterated-whole : 1 ≤ clock.pace.read → 1 ≤ clock.pace.iter → IfSome clock.bank.running (λ op. IsIteration (ends clock.pace action) op clock.bank bank answer old new)
        → IfSome clock.bank.running (λ op. Touches (ends clock.pace action) (op.target ∷ []) (Some op.target) false old new)
        → ((h : List (BankEvent n)) → Holds h clock.bank old → Holds (Iterate answer ∷ h) bank new)
        → Completes clock (after_action clock bank put-regs action (Iterate answer)) action old new results (step_recorded answer (ends clock.pace action) results)
    iterated-whole read iter = by clock.bank.running refl iterate-ready
      where
        by : (r : Option (Operation n m e)) → clock.bank.running ≡ r → IsTrue (is_some r) → IfSome r (λ op. IsIteration (ends clock.pace action) op clock.bank bank answer old new)
            → IfSome r (λ op. Touches (ends clock.pace action) (op.target ∷ []) (Some op.target) false old new)
            → ((h : List (BankEvent n)) → Holds h clock.bank old → Holds (Iterate answer ∷ h) bank new)
            → Completes clock (after_action clock bank put-regs action (Iterate answer)) action old new results (step_recorded answer (ends clock.pace action) results)
        by None is some iterates touches holds = absurd (false≢true some)
        by (Some op) is some iterates touches holds = whole-by op is iterates read iter touches holds
