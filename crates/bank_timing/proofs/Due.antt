-- An action that is completed now: what is true before.
use Rattle.std.proofs.Common.{◌≡◌, ℕ, ◌≤◌, List, Some, sym, subst}
use Rattle.cell_rows.specs.Device.{ArrayState}
use Rattle.result_rows.specs.declared.Outcome.{Outcome}
use Rattle.bank_shape.specs.{declared.clock.Action.Action, declared.clock.Doing.Doing}
use Rattle.bank_model.specs.Timing.{TimedEvent}
use Rattle.clock_laws.specs.{Fitting.IsFit, Leads.Leads, State.{ClockState, next_action}}
use Rattle.bank_timing.{specs.Clock.IsClock, specs.Completing.MayEnd, specs.Extending.AreOpen, specs.declared.clocked.Timed.TheInside.Inside, proofs.Acting.begun-before}
use Rattle.bank_timing.proofs.Views.{clock_of}

-- an action of a kind runs from now on and has what it needs; some history leads to the clock over an array, and the rows that stand
-- have no outcome yet
pub record IsDue {n m e : ℕ} (clock : ClockState n m e) (action : Action) (kind : Doing) (array : ArrayState n m) (results : List (Outcome n)) : Type 0 where
  pub next : next_action clock ≡ Some action
  pub doing : action.doing ≡ kind
  pub fit : IsFit clock.bank clock.regs clock.action
  pub led : (xs : List (TimedEvent n m)) × Leads xs clock array
  pub unset : AreOpen clock.bank results

-- the same without rows
pub record IsDueAlone {n m e : ℕ} (clock : ClockState n m e) (action : Action) (kind : Doing) (array : ArrayState n m) : Type 0 where
  pub next : next_action clock ≡ Some action
  pub doing : action.doing ≡ kind
  pub fit : IsFit clock.bank clock.regs clock.action
  pub led : (xs : List (TimedEvent n m)) × Leads xs clock array

module _ {n m e : ℕ} (t : Inside n m e) {now : ClockState n m e} {action : Action} (same : clock_of t ≡ now) (inv : IsClock t.bank t.regs t.pace t.tick t.action t.arrivals.capacity)
    {kind : Doing} {array : ArrayState n m} (may : MayEnd now action kind array) where
  -- the action is that which runs from now on, by the fields too
  runs : next_action (clock_of t) ≡ Some action
  runs = subst (λ (clock : ClockState n m e). next_action clock ≡ Some action) (sym same) may.next

  led : (xs : List (TimedEvent n m)) × Leads xs (clock_of t) array
  led = subst (λ (clock : ClockState n m e). (xs : List (TimedEvent n m)) × Leads xs clock array) (sym same) may.led

  -- the action has begun
  pub due-begun : action.first ≤ now.tick
  due-begun = subst (λ (clock : ClockState n m e). action.first ≤ clock.tick) same (begun-before (clock_of t) action runs inv.begun)

  -- what a call that completes an action asks for says that the action is due
  pub due : {results : List (Outcome n)} → AreOpen now.bank results → IsDue (clock_of t) action kind array results
  due {results = results} unset =
      record { next = runs; doing = may.doing; fit = inv.fit; led = led; unset = subst (λ (clock : ClockState n m e). AreOpen clock.bank results) (sym same) unset }

  -- the same where no row is recorded
  pub due-stands : IsDueAlone (clock_of t) action kind array
  due-stands = record { next = runs; doing = may.doing; fit = inv.fit; led = led }
