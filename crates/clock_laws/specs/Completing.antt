-- The laws of an action that ends: a serve, or a begin or an iteration of the bank's line write or of the change's.
use Rattle.std.specs.Prelude.{◌≡◌, ℕ, ◌<◌, false, IsTrue, List, [], ◌∷◌, drop, Option, Some, None, IfSome, is_some}
use Rattle.cell_rows.specs.{Device.ArrayState, declared.array.Sense.Sense}
use Rattle.bank_shape.specs.{declared.answer.Step.Step, declared.clock.Action.Action, declared.clock.Doing.Doing, declared.clock.Doing.TheVariants.{Serving, Beginning, Iterating}}
use Rattle.bank_shape.specs.declared.answer.Step.TheVariants as did
use Rattle.bank_model.specs.{Changes.line_of_change, Events.{BankEvent, Serve, Begin, Iterate}, Lawful.MayKeep, Running.{cancels_by, cancels_with}}
use Rattle.bank_model.specs.Sensing.{most_steps, sensed_by, pulsed_by, kept_sensed, kept_pulsed, IsReadRight}
use Rattle.bank_model.specs.{Timing.{TimedEvent, Happens, Core, Regs, Keeping, KeepBegin, KeepIterate, KeepCut, core, ends}, Touching.{Touches, AreStruck, shown}}
use Rattle.reg_lines.specs.{Regs.RegsState, declared.Change.Change}
use Rattle.register_laws.specs.{Control.Control, Telling.{AreTold, item_of}}
use Rattle.bank_invariant.specs.{Holds.Holds, State.BankState}
use Rattle.clock_laws.specs.{Leads.{Leads, CopiesWhatItSensed}, State.{ClockState, next_action}, Tearing.GoesOnWriting}

-- what ends an action, which started at its first tick
abbrev pub completion : {n m : ℕ} → ℕ → ℕ → Happens n → List (Sense n m) → Option ℕ → TimedEvent n m
completion first tick happens senses pulsed =
    record { happens = happens; tick = tick; first = first; senses = senses; pulsed = pulsed; cancels = false }

-- an event is the end of what a bank was busy with
abbrev pub EndsDoing : {n : ℕ} → BankEvent n → Doing → Type 0
EndsDoing (Serve answer) doing = doing ≡ Serving
EndsDoing (Begin answer) doing = doing ≡ Beginning
EndsDoing (Iterate answer) doing = doing ≡ Iterating
EndsDoing _ doing = ⊥

-- a step of the writing of a change is
abbrev pub EndsKeeping : Keeping → Doing → Type 0
EndsKeeping (KeepBegin answer) doing = doing ≡ Beginning
EndsKeeping (KeepIterate answer) doing = doing ≡ Iterating
EndsKeeping (KeepCut tearing) doing = ⊥

-- a line write of the bank is begun and goes on only while no change stands
abbrev pub IsAlone : {n : ℕ} → BankEvent n → Option Change → Type 0
IsAlone (Begin answer) change = change ≡ None
IsAlone (Iterate answer) change = change ≡ None
IsAlone _ change = Unit {0}

-- the arrival ticks of the queue after a step of a line write: a write that is stored has left it
abbrev pub arrivals_by : Step → List ℕ → List ℕ
arrivals_by (did.Stored row place) arrivals = drop 1 arrivals
arrivals_by _ arrivals = arrivals

abbrev pub arrivals_with : {n : ℕ} → BankEvent n → List ℕ → List ℕ
arrivals_with (Begin answer) arrivals = arrivals_by answer arrivals
arrivals_with (Iterate answer) arrivals = arrivals_by answer arrivals
arrivals_with _ arrivals = arrivals

module _ {n m e : ℕ} where
  -- the event that ends an action of a bank, with what it senses and pulses
  abbrev pub completed : List (TimedEvent n m) → ClockState n m e → Action → BankEvent n → ArrayState n m → TimedEvent n m
  completed xs clock action event array =
      let shape = clock.bank.kept.shape in
      let tick = ends clock.pace action in
      completion action.first tick (Core event) (shown tick (sensed_by shape (core xs) [] event) array) (pulsed_by shape (core xs) None event)

  -- the clock after an action ended so, with this bank and these control lines: no action runs
  abbrev pub after_action : ClockState n m e → BankState n m e → RegsState n m e → Action → BankEvent n → ClockState n m e
  after_action clock bank regs action event =
      record { bank = bank; regs = regs; pace = clock.pace; tick = ends clock.pace action; action = None; arrivals = arrivals_with event clock.arrivals; cancels = cancels_by event false clock.cancels; drained = clock.drained }

  -- the line of the change that stands
  abbrev pub line_kept : ClockState n m e → Option ℕ
  line_kept clock = line_of_change clock.bank.kept.shape (item_of clock.regs.change)

  -- the step of the writing of that change which ends an action
  abbrev pub keep_completed : ClockState n m e → Action → Keeping → ArrayState n m → TimedEvent n m
  keep_completed clock action event array =
      let tick = ends clock.pace action in
      completion action.first tick (Regs event) (shown tick (kept_sensed (line_kept clock) event) array) (kept_pulsed (line_kept clock) event)

  -- the clock after it, with these control lines
  abbrev pub after_keep : ClockState n m e → RegsState n m e → Action → Keeping → ClockState n m e
  after_keep clock regs action event =
      record { bank = clock.bank; regs = regs; pace = clock.pace; tick = ends clock.pace action; action = None; arrivals = clock.arrivals; cancels = cancels_with {n = n} (Regs event) false clock.cancels; drained = clock.drained }

-- the action that runs from now on ends by its event, which extends the history; that it ends later, that it strikes cells that missed
-- before, that what it sensed is read right, that a gap move in progress writes what its begin sensed, that the control lines are told by
-- the history and hold what the bank keeps, and that a serve leaves the writing of the change that stands, are premises
abbrev pub CompletionLaw : Type 0
CompletionLaw =
    (n m e : ℕ) (event : BankEvent n) (action : Action) (xs : List (TimedEvent n m)) (clock : ClockState n m e) (bank : BankState n m e) (regs : RegsState n m e) (old new : ArrayState n m)
    → Leads xs clock old → next_action clock ≡ Some action → EndsDoing event action.doing → clock.tick < ends clock.pace action
    → IsAlone event clock.regs.change
    → Holds (event ∷ core xs) bank new → bank.kept.shape ≡ clock.bank.kept.shape → bank.lost ≡ []
    → let tick = ends clock.pace action in
    Touches tick (sensed_by clock.bank.kept.shape (core xs) [] event) (pulsed_by clock.bank.kept.shape (core xs) None event) false old new
    → AreStruck clock.bank.kept.shape (core xs) event (pulsed_by clock.bank.kept.shape (core xs) None event) old new
    → IsReadRight e clock.bank.kept.shape xs event (shown tick (sensed_by clock.bank.kept.shape (core xs) [] event) new)
    → IfSome bank.running (CopiesWhatItSensed (completed xs clock action event new ∷ xs))
    → AreTold clock.bank.kept.shape (completed xs clock action event new ∷ xs) regs → Control bank.kept regs new
    → GoesOnWriting tick clock.regs regs (Core event) (pulsed_by clock.bank.kept.shape (core xs) None event) old new
    → Leads (completed xs clock action event new ∷ xs) (after_action clock bank regs action event) new

-- so it does where it is a step of the writing of the change that stands, which leaves the bank as it was
abbrev pub KeepingLaw : Type 0
KeepingLaw =
    (n m e : ℕ) (event : Keeping) (action : Action) (xs : List (TimedEvent n m)) (clock : ClockState n m e) (regs : RegsState n m e) (old new : ArrayState n m)
    → Leads xs clock old → next_action clock ≡ Some action → EndsKeeping event action.doing → clock.tick < ends clock.pace action
    → IsTrue (is_some clock.regs.change) → MayKeep clock.bank.kept.shape clock.pace (most_steps e) xs event
    → Touches (ends clock.pace action) (kept_sensed (line_kept clock) event) (kept_pulsed (line_kept clock) event) false old new
    → AreTold clock.bank.kept.shape (keep_completed clock action event new ∷ xs) regs → Control clock.bank.kept regs new
    → GoesOnWriting (ends clock.pace action) clock.regs regs (Regs event) (kept_pulsed (line_kept clock) event) old new
    → Leads (keep_completed clock action event new ∷ xs) (after_keep clock regs action event) new
