-- A step of the writing of a change ends: what becomes of the clock and the array.
use Rattle.std.proofs.Common.{◌≡◌, ◌≢◌, ℕ, ◌<◌, ◌≤◌, Bool, true, false, List, [], Option, Some, None, is_some, refl, sym, subst, ◌∙◌}
use Rattle.std.{specs.Prelude.IsTrue, proofs.lemmas.Bool.false≢true, proofs.lemmas.List.Elements.{All-nil, All-cons}}
use Rattle.cell_rows.specs.Device.{ArrayState}
use Rattle.result_rows.specs.declared.Outcome.{Outcome}
use Rattle.line_writer.specs.declared.writer.LineWriter.{LineWriter}
use Rattle.bank_shape.specs.{declared.answer.Keep.Keep, declared.clock.Action.Action, declared.clock.Doing.Doing, declared.clock.Doing.TheVariants.{Beginning, Iterating}}
use Rattle.bank_shape.specs.declared.answer.Keep.TheVariants as keep
use Rattle.bank_model.specs.{Running.cancels_with, Timing.{TimedEvent, Keeping, KeepBegin, KeepIterate, Regs, ends}, Touching.Touches}
use Rattle.bank_laws.specs.Ticks.{ends_action}
use Rattle.reg_lines.specs.{Keeping.{line_of, target_of, kept_on, IsBegin, IsIteration}, Regs.{RegsState, AreHeld}}
use Rattle.register_laws.{specs.Writing.IsWrittenWhole, proofs.Writing.{begun_law, iterated_law}}
use Rattle.clock_laws.specs.{Actions.LeadsOn, Completing.{after_keep, keep_completed}, Fitting.{Fits, IsFit}, Leads.Leads, Remaining.actions_left, State.{ClockState, next_action}}
use Rattle.clock_laws.proofs.{Fitting.needs_law, Keeping.{keep_begin_ends_law, keep_iterate_ends_law}, Remaining.{falling_law, one_write_law}}
use Rattle.bank_timing.{specs.Completing.{Completes, cancels_by_keep}, specs.Extending.{AreOpen, EndsAction}, proofs.Acting.{next-fits, next-ends}}

-- what is written has not halted
pub not-halted : {n m e : ℕ} (regs : RegsState n m e) → (IsTrue regs.halted → regs.writer ≡ None) → IsTrue (is_some regs.writer) → regs.halted ≡ false
not-halted {n} {m} {e} regs idle some = by regs.halted regs.writer idle some
  where
    by : (halted : Bool) (w : Option (LineWriter n m e)) → (IsTrue halted → w ≡ None) → IsTrue (is_some w) → halted ≡ false
    by false w idle some = refl
    by true None idle some = absurd (false≢true some)
    by true (Some writer) idle some = absurd (no-such (idle refl))
      where
        no-such : Some writer ≡ None → ⊥
        no-such is = cc

-- and is still not written once it has
pub keep-idle : {n m e : ℕ} (regs : RegsState n m e) (answer : Keep) (writer : LineWriter n m e) → regs.halted ≡ false → IsTrue (kept_on answer writer regs).halted → (kept_on answer writer regs).writer ≡ None
keep-idle regs keep.More writer going halts = absurd (false≢true (sym going ∙ halts))
keep-idle regs keep.Done writer going halts = refl
keep-idle regs keep.Halted writer going halts = refl

-- the code counts cancels as the history does
pub keep-begun-cancels : (n : ℕ) (answer : Keep) (count : ℕ) → cancels_by_keep answer count ≡ cancels_with {n = n} (Regs (KeepBegin answer)) false count
keep-begun-cancels n keep.More count = refl
keep-begun-cancels n keep.Done count = refl
keep-begun-cancels n keep.Halted count = refl

pub keep-iterated-cancels : (n : ℕ) (answer : Keep) (count : ℕ) → cancels_by_keep answer count ≡ cancels_with {n = n} (Regs (KeepIterate answer)) false count
keep-iterated-cancels n keep.More count = refl
keep-iterated-cancels n keep.Done count = refl
keep-iterated-cancels n keep.Halted count = refl

module _ {n m e : ℕ} (clock : ClockState n m e) (action : Action) (regs : RegsState n m e) (old new : ArrayState n m) (results : List (Outcome n)) where
  keep-completes : (event : Keeping) → IsTrue (ends_action {n = n} (Regs event)) → clock.tick < ends clock.pace action → AreOpen clock.bank results
      → actions_left clock.bank regs < actions_left clock.bank clock.regs
      → ((xs : List (TimedEvent n m)) → Leads xs clock old → LeadsOn clock.bank.kept.shape xs (keep_completed clock action event new) (after_keep clock regs action event) old new)
      → Completes clock (after_keep clock regs action event) action old new results results
  keep-completes event ends_one later unset less goes = record {
    now = refl;
    later = later;
    pace = refl;
    drained = refl;
    none = refl;
    extends = λ xs leads. (
      keep_completed clock action event new,
      record { leads = (goes xs leads).leads; shape = refl; pace = refl; adds = (goes xs leads).adds; rows = refl; outcomes = λ row there. refl },
      All-cons (λ (x : TimedEvent n m). EndsAction x) (keep_completed clock action event new) [] ends_one (All-nil (λ (x : TimedEvent n m). EndsAction x)),
    );
    unset = unset;
    bound = refl;
    less = less;
  }

module _ {n m e : ℕ} (clock : ClockState n m e) (action : Action) (next : next_action clock ≡ Some action) (fit : IsFit clock.bank clock.regs clock.action) (stands : IsTrue (is_some clock.regs.change)) where
  pub keep-begin-ready : action.doing ≡ Beginning → (clock.regs.writer ≡ None) × (clock.regs.halted ≡ false)
  keep-begin-ready doing = (needs_law n m e clock.bank clock.regs).begins_change stands (subst (λ (d : Doing). Fits clock.bank clock.regs d) doing (next-fits clock action next fit))

  pub keep-iterate-ready : action.doing ≡ Iterating → IsTrue (is_some clock.regs.writer)
  keep-iterate-ready doing = (needs_law n m e clock.bank clock.regs).iterates_change stands (subst (λ (d : Doing). Fits clock.bank clock.regs d) doing (next-fits clock action next fit))

  module _ (regs : RegsState n m e) (answer : Keep) (old new : ArrayState n m) (led : (xs : List (TimedEvent n m)) × Leads xs clock old) (read : 1 ≤ clock.pace.read) (iter : 1 ≤ clock.pace.iter)
      (whole : IsWrittenWhole clock.regs new answer) (held : AreHeld regs new) (results : List (Outcome n)) (unset : AreOpen clock.bank results) where
    later : clock.tick < ends clock.pace action
    later = next-ends clock action next led.0 old led.1 read iter

    pub keep-begun : IsBegin clock.regs regs answer new → action.doing ≡ Beginning → answer ≢ keep.Halted → Touches (ends clock.pace action) (line_of clock.regs clock.regs.change) None false old new
        → Completes clock (after_keep clock regs action (KeepBegin answer)) action old new results results
    keep-begun step doing going touches =
        keep-completes clock action regs old new results (KeepBegin answer) refl later unset
        (subst (λ (r : RegsState n m e). actions_left clock.bank r < actions_left clock.bank clock.regs) (sym step.leaves) (less answer going))
        (λ xs leads.
        keep_begin_ends_law n m e answer action step.writer xs clock regs old new leads ready.0 ready.1
        (record {
          next = next;
          doing = doing;
          later = later;
          stands = stands;
          touches = touches;
          leaves = step.leaves;
          control = begun_law n m e (ends clock.pace action) clock.bank.kept clock.regs regs old new answer leads.holds.kept leads.control step touches whole held;
        })
        going step.few)
      where
        ready : (clock.regs.writer ≡ None) × (clock.regs.halted ≡ false)
        ready = keep-begin-ready doing

        less : (answer : Keep) → answer ≢ keep.Halted → actions_left clock.bank (kept_on answer step.writer clock.regs) < actions_left clock.bank clock.regs
        less keep.More going = (falling_law n m e clock.bank clock.regs).after_keep_begin step.writer stands ready.1 ready.0 step.few
        less keep.Done going = (falling_law n m e clock.bank clock.regs).after_done step.writer stands ready.1 (one_write_law n m e led.0 clock old led.1 stands)
        less keep.Halted going = absurd (going refl)

    pub keep-iterated : IsIteration (ends clock.pace action) clock.regs regs answer old new → action.doing ≡ Iterating → clock.regs.halted ≡ false
        → Touches (ends clock.pace action) (line_of clock.regs clock.regs.change) (target_of clock.regs clock.regs.change) false old new
        → Completes clock (after_keep clock regs action (KeepIterate answer)) action old new results results
    keep-iterated step doing running touches =
        keep-completes clock action regs old new results (KeepIterate answer) refl later unset
        (subst (λ (r : RegsState n m e). actions_left clock.bank r < actions_left clock.bank clock.regs) (sym step.leaves) (less answer))
        (λ xs leads.
        keep_iterate_ends_law n m e answer action xs clock regs old new leads step
        (record {
          next = next;
          doing = doing;
          later = later;
          stands = stands;
          touches = touches;
          leaves = step.leaves;
          control = iterated_law n m e (ends clock.pace action) clock.bank.kept clock.regs regs old new answer leads.holds.kept leads.control step touches whole held;
        }))
      where
        less : (answer : Keep) → actions_left clock.bank (kept_on answer step.now clock.regs) < actions_left clock.bank clock.regs
        less keep.More = (falling_law n m e clock.bank clock.regs).after_keep_iteration step.writer step.now stands running step.runs step.step.fewer
        less keep.Done = (falling_law n m e clock.bank clock.regs).after_done step.now stands running (one_write_law n m e led.0 clock old led.1 stands)
        less keep.Halted = (falling_law n m e clock.bank clock.regs).after_halted step.now stands running
