-- The laws of time that passes in which no event comes, and of a bank that has nothing left to do.
use Rattle.std.specs.Prelude.{◌≡◌, ℕ, ◌<◌, ◌≤◌, List, Option, None, IfSome}
use Rattle.cell_rows.specs.Device.{ArrayState}
use Rattle.bank_shape.specs.declared.clock.Action.{Action}
use Rattle.bank_model.specs.{Lawful.IsIdle, Timing.{TimedEvent, ends}}
use Rattle.clock_laws.specs.{Leads.Leads, State.{ClockState, next_action}}

-- the clock at another tick, with this action running
abbrev pub at_tick : {n m e : ℕ} → ℕ → Option Action → ClockState n m e → ClockState n m e
at_tick tick action clock =
    record { bank = clock.bank; regs = clock.regs; pace = clock.pace; tick = tick; action = action; arrivals = clock.arrivals; cancels = clock.cancels; drained = clock.drained }

-- a history leads to its bank at a later tick too, where the action that runs from now on hasn't ended by then
abbrev pub PassingLaw : Type 0
PassingLaw =
    (n m e to : ℕ) (xs : List (TimedEvent n m)) (clock : ClockState n m e) (array : ArrayState n m)
    → Leads xs clock array → clock.tick < to → IfSome (next_action clock) (λ a. to < ends clock.pace a)
    → Leads xs (at_tick to (next_action clock) clock) array

-- a bank in which no action runs and none is chosen has nothing left to do after its history
abbrev pub IdleLaw : Type 0
IdleLaw =
    (n m e : ℕ) (xs : List (TimedEvent n m)) (clock : ClockState n m e) (array : ArrayState n m)
    → Leads xs clock array → next_action clock ≡ None → IsIdle clock.bank.kept.shape clock.pace xs

-- the action that runs from now on ends later, where senses and iterations last
abbrev pub EndingLaterLaw : Type 0
EndingLaterLaw =
    (n m e : ℕ) (clock : ClockState n m e)
    → 1 ≤ clock.pace.read → 1 ≤ clock.pace.iter → IfSome clock.action (λ a. clock.tick < ends clock.pace a)
    → IfSome (next_action clock) (λ a. clock.tick < ends clock.pace a)
