-- The action that runs from now on.
use Rattle.std.proofs.Common.{◌≡◌, ℕ, ◌<◌, ◌≤◌, List, Option, Some, None, sym, subst, arith}
use Rattle.std.specs.Prelude.{IfSome}
use Rattle.cell_rows.specs.Device.{ArrayState}
use Rattle.bank_shape.specs.{declared.clock.Action.Action, declared.clock.Doing.Doing, declared.pace.Pace.Pace}
use Rattle.bank_model.specs.Timing.{TimedEvent, ends}
use Rattle.clock_laws.specs.{Fitting.{Fits, IsFit}, Leads.Leads, Passing.at_tick, State.{ClockState, or_else, started_at, chosen, next_action}}
use Rattle.clock_laws.proofs.{Fitting.chosen_law, Passing.{passing_law, ending_later_law}}
use Rattle.bank_timing.specs.Clock.{IsClock}

pub some-of : {A : Type 0} (P : A → Type 0) (x : Option A) (a : A) → x ≡ Some a → IfSome x P → P a
some-of P x a is all = subst (λ (x : Option _). IfSome x P) is all

module _ {n m e : ℕ} (clock : ClockState n m e) where
  -- it has begun
  pub next-begun : IfSome clock.action (λ a. a.first ≤ clock.tick) → IfSome (next_action clock) (λ a. a.first ≤ clock.tick)
  next-begun = by clock.action (chosen clock)
    where
      by : (a : Option Action) (d : Option Doing) → IfSome a (λ a. a.first ≤ clock.tick) → IfSome (or_else a (started_at clock.tick d)) (λ a. a.first ≤ clock.tick)
      by (Some a) d own = own
      by None None own = tt
      by None (Some doing) own = omega arith

  -- time passes while it runs
  pub passes : (to : ℕ) (action : Option Action) → action ≡ next_action clock → clock.tick < to → IfSome action (λ a. to < ends clock.pace a)
      → (xs : List (TimedEvent n m)) (array : ArrayState n m) → Leads xs clock array → Leads xs (at_tick to action clock) array
  passes to action is later runs xs array leads =
      subst (λ (a : Option Action). Leads xs (at_tick to a clock) array) (sym is)
      (passing_law n m e to xs clock array leads later (subst (λ (a : Option Action). IfSome a (λ a. to < ends clock.pace a)) is runs))

  -- it has begun and has what it needs, also later
  pub passes-clock : (pace : Pace) (capacity to : ℕ) (action : Option Action) → action ≡ next_action clock → clock.tick < to
      → IsClock clock.bank clock.regs pace clock.tick clock.action capacity → IsClock clock.bank clock.regs pace to action capacity
  passes-clock pace capacity to action is later inv = record {
    layout = inv.layout;
    paced = inv.paced;
    room = inv.room;
    begun = subst (λ (a : Option Action). IfSome a (λ a. a.first ≤ to)) (sym is) (longer (next_action clock) (next-begun inv.begun));
    idle = inv.idle;
    fit = subst (λ (a : Option Action). IsFit clock.bank clock.regs a) (sym is) (chosen_law n m e clock inv.fit);
  }
    where
      longer : (a : Option Action) → IfSome a (λ a. a.first ≤ clock.tick) → IfSome a (λ a. a.first ≤ to)
      longer None own = tt
      longer (Some a) own = omega (arith, own, later)

  module _ (action : Action) (next : next_action clock ≡ Some action) where
    pub begun-before : IfSome clock.action (λ a. a.first ≤ clock.tick) → action.first ≤ clock.tick
    begun-before begun = some-of (λ (a : Action). a.first ≤ clock.tick) (next_action clock) action next (next-begun begun)

    pub next-fits : IsFit clock.bank clock.regs clock.action → Fits clock.bank clock.regs action.doing
    next-fits fit = some-of (λ (a : Action). Fits clock.bank clock.regs a.doing) (next_action clock) action next (chosen_law n m e clock fit)

    pub next-ends : (xs : List (TimedEvent n m)) (array : ArrayState n m) → Leads xs clock array → 1 ≤ clock.pace.read → 1 ≤ clock.pace.iter → clock.tick < ends clock.pace action
    next-ends xs array leads read iter =
        some-of (λ (a : Action). clock.tick < ends clock.pace a) (next_action clock) action next (ending_later_law n m e clock read iter leads.told.to_come)
