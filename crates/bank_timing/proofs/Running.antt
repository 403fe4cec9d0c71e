-- A bank runs on: action after action, and time between them.
use Rattle.std.proofs.Common.{◌≡◌, ℕ, ◌+◌, ◌^◌, ◌<◌, ◌≤◌, false, List, [], ◌∷◌, ◌++◌, Some, refl, sym, ap, subst, ◌∙◌, arith}
use Rattle.std.{specs.Prelude.{IsTrue, unwrap_or}, proofs.lemmas.Bool.or_from, proofs.lemmas.List.Elements.{All-nil, All-cons, All-head, All-tail}}
use Rattle.cell_rows.specs.Device.{ArrayState}
use Rattle.result_rows.specs.{Table.HasRow, declared.Outcome.Outcome}
use Rattle.bank_shape.specs.{declared.BankShape.BankShape, declared.clock.Action.Action, declared.pace.Pace.Pace}
use Rattle.bank_model.specs.{Adding.Adds, Events.{Write, Read, Serve, Begin, Iterate, Cut}, Lawful.Lawful, Timing.{Happens, Core, Regs, TimedEvent}}
use Rattle.bank_laws.specs.{Outcomes.outcome_with, Ticks.ends_action}
use Rattle.clock_laws.{specs.Leads.Leads, specs.Passing.at_tick, specs.Standing.{is_arrival_of, arrives_with}, specs.State.{ClockState, next_action}, proofs.Draining.ends-at}
use Rattle.clock_laws.proofs.{Extending.{nothing_added_law, both_added_law}, Others.other_rows_law}
use Rattle.bank_timing.specs.{Completing.Completes, Extending.{Extends, RunsOn, RunsDown, AreOpen, EndsAction, IsQuiet, LeavesOthers, outcome_in}}

pub le-same : (a : ℕ) → a ≤ a
le-same a = omega arith

pub before-drain : (tick to : ℕ) → tick ≤ to → to ≤ 2 ^ 40 → tick ≤ 2 ^ 41
before-drain tick to by within = omega (arith, by, within)

pub ends-by : (new end to lasts : ℕ) → new ≡ lasts → end ≡ lasts → end ≤ to → new ≤ to
ends-by new end to lasts is same by = omega (arith, is, same, by)

pub first-fits : (first tick to : ℕ) → first ≤ tick → tick < to → to ≤ 2 ^ 40 → first + 4294967296 < 18446744073709551616
first-fits first tick to begun before within = omega (arith, begun, before, within)

pub small-first : (first tick : ℕ) → first ≤ tick → tick ≤ 2 ^ 40 → first + 4294967296 < 18446744073709551616
small-first first tick begun within = omega (arith, begun, within)

module _ {n : ℕ} where
  -- no row arrives with the end of an action
  pub end-brings_none : (h : Happens n) (row : ℕ) → IsTrue (ends_action h) → is_arrival_of h row ≡ false
  end-brings_none (Core (Write at line bytes given answer)) row ends = absurd (cc)
  end-brings_none (Core (Read at line answer)) row ends = absurd (cc)
  end-brings_none (Core (Serve answer)) row ends = refl
  end-brings_none (Core (Begin answer)) row ends = refl
  end-brings_none (Core (Iterate answer)) row ends = refl
  end-brings_none (Core (Cut tearing)) row ends = refl
  end-brings_none (Regs event) row ends = refl

module _ {n m : ℕ} where
  abbrev Ends : TimedEvent n m → Type 0
  Ends x = EndsAction x

  -- none of these is the arrival of a row
  pub none-arrives : (added : List (TimedEvent n m)) (row : ℕ) → IsQuiet added
      → arrives_with added row ≡ false
  none-arrives [] row quiet = refl
  none-arrives (x ∷ added) row quiet =
      or_from (is_arrival_of x.happens row) _ (end-brings_none x.happens row (All-head Ends x added quiet)) (none-arrives added row (All-tail Ends x added quiet))

module _ {n m e : ℕ} where
  pub no-events : (xs : List (TimedEvent n m)) (clock : ClockState n m e) (array : ArrayState n m) (results : List (Outcome n)) → Leads xs clock array
      → Extends xs [] clock clock array array results results
  no-events xs clock array results leads =
      record { leads = leads; shape = refl; pace = refl; adds = nothing_added_law n m clock.bank.kept.shape array; rows = refl; outcomes = λ row there. refl }

  -- one event more
  pub one-more : (xs added : List (TimedEvent n m)) (x : TimedEvent n m) (old now new : ClockState n m e) (before mid after : ArrayState n m) (results between recorded : List (Outcome n))
      → Extends xs added old now before mid results between → Extends (added ++ xs) (x ∷ []) now new mid after between recorded
      → Extends xs (x ∷ added) old new before after results recorded
  one-more xs added x old now new before mid after results between recorded first second = record {
    leads = second.leads;
    shape = second.shape ∙ first.shape;
    pace = second.pace ∙ first.pace;
    adds = both_added_law n m old.bank.kept.shape (x ∷ []) added before mid after first.adds (subst (λ (shape : BankShape). Adds shape (x ∷ []) mid after) first.shape second.adds);
    rows = second.rows ∙ first.rows;
    outcomes = λ row there.
        let still : HasRow between row = (let same = first.rows in record { above = there.above; within = omega (arith, same, there.within) }) in
        second.outcomes row still
        ∙ ap (λ (shape : BankShape). unwrap_or (outcome_with shape (added ++ xs) x.happens x.tick row) (outcome_in between row)) first.shape
        ∙ ap (λ (o : Outcome n). unwrap_or (outcome_with old.bank.kept.shape (added ++ xs) x.happens x.tick row) o) (first.outcomes row there);
  }

  pub ran-none : (clock : ClockState n m e) (array : ArrayState n m) (results : List (Outcome n)) → ((xs : List (TimedEvent n m)) × Leads xs clock array) → AreOpen clock.bank results
      → RunsOn clock clock array array results results
  ran-none clock array results led unset = record { led = led; extends = λ xs leads. ([], no-events xs clock array results leads, All-nil Ends); unset = unset; bound = refl }

  pub ran-more : (action : Action) (old now new : ClockState n m e) (before mid after : ArrayState n m) (results between recorded : List (Outcome n))
      → RunsOn old now before mid results between → Completes now new action mid after between recorded → RunsOn old new before after results recorded
  ran-more action old now new before mid after results between recorded ran step = record {
    led =
        let by = step.extends ran.led.0 ran.led.1 in
        (by.0 ∷ ran.led.0, by.1.leads);
    extends = λ xs leads.
        let first = ran.extends xs leads in
        let second = step.extends (first.0 ++ xs) first.1.leads in
        (second.0 ∷ first.0, one-more xs first.0 second.0 old now new before mid after results between recorded first.1 second.1, All-cons Ends second.0 first.0 (All-head Ends second.0 [] second.2) first.2);
    unset = step.unset;
    bound = step.bound ∙ ran.bound;
  }

  -- a bank that ran down ran on
  pub runs-on : (old new : ClockState n m e) (before after : ArrayState n m) (results recorded : List (Outcome n)) → RunsDown old new before after results recorded → RunsOn old new before after results recorded
  runs-on old new before after results recorded down =
      record { led = down.led; extends = λ xs leads. (let by = down.extends xs leads in (by.0, by.1, by.2)); unset = down.unset; bound = down.bound }

  pub down-none : (clock : ClockState n m e) (array : ArrayState n m) (results : List (Outcome n)) → ((xs : List (TimedEvent n m)) × Leads xs clock array) → AreOpen clock.bank results
      → RunsDown clock clock array array results results
  down-none clock array results led unset = record { led = led; extends = λ xs leads. ([], no-events xs clock array results leads, All-nil Ends, refl); unset = unset; bound = refl }

  pub down-more : (action : Action) (old now new : ClockState n m e) (before mid after : ArrayState n m) (results between recorded : List (Outcome n))
      → 1 ≤ now.pace.read → 1 ≤ now.pace.iter → next_action now ≡ Some action
      → RunsDown old now before mid results between → Completes now new action mid after between recorded → RunsDown old new before after results recorded
  down-more action old now new before mid after results between recorded read iter next ran step = record {
    led =
        let by = step.extends ran.led.0 ran.led.1 in
        (by.0 ∷ ran.led.0, by.1.leads);
    extends = λ xs leads.
        let first = ran.extends xs leads in
        let second = step.extends (first.0 ++ xs) first.1.leads in
        let ends = All-head Ends second.0 [] second.2 in
        let lawful : Lawful now.bank.kept.shape now.pace e (second.0 ∷ (first.0 ++ xs)) =
        subst (λ (shape : BankShape). Lawful shape now.pace e (second.0 ∷ (first.0 ++ xs))) second.1.shape (subst (λ (pace : Pace). Lawful new.bank.kept.shape pace e (second.0 ∷ (first.0 ++ xs))) second.1.pace second.1.leads.lawful) in (
          second.0 ∷ first.0,
          one-more xs first.0 second.0 old now new before mid after results between recorded first.1 second.1,
          All-cons Ends second.0 first.0 ends first.2,
          step.now ∙ sym (ends-at (first.0 ++ xs) now mid read iter first.1.leads second.0 action lawful ends next),
        );
    unset = step.unset;
    bound = step.bound ∙ ran.bound;
  }

  pub ran-pass : (to : ℕ) (old now : ClockState n m e) (before mid : ArrayState n m) (results between : List (Outcome n))
      → RunsOn old now before mid results between → ((xs : List (TimedEvent n m)) (array : ArrayState n m) → Leads xs now array → Leads xs (at_tick to (next_action now) now) array)
      → RunsOn old (at_tick to (next_action now) now) before mid results between
  ran-pass to old now before mid results between ran leads-on = record {
    led = (ran.led.0, leads-on ran.led.0 mid ran.led.1);
    extends = λ xs leads.
        let first = ran.extends xs leads in (
          first.0,
          record { leads = leads-on (first.0 ++ xs) mid first.1.leads; shape = first.1.shape; pace = first.1.pace; adds = first.1.adds; rows = first.1.rows; outcomes = first.1.outcomes },
          first.2,
        );
    unset = ran.unset;
    bound = ran.bound;
  }

  -- no other row is touched
  pub ran-others : (old new : ClockState n m e) (before after : ArrayState n m) (results recorded : List (Outcome n)) → ((xs : List (TimedEvent n m)) × Leads xs old before)
      → RunsOn old new before after results recorded → LeavesOthers old.bank results recorded
  ran-others old new before after results recorded led ran row there unqueued unawaited =
      let by = ran.extends led.0 led.1 in
      let lawful : Lawful old.bank.kept.shape old.pace e (by.0 ++ led.0) =
      subst (λ (shape : BankShape). Lawful shape old.pace e (by.0 ++ led.0)) by.1.shape (subst (λ (pace : Pace). Lawful new.bank.kept.shape pace e (by.0 ++ led.0)) by.1.pace by.1.leads.lawful) in
      by.1.outcomes row there ∙ other_rows_law n m e row by.0 led.0 old before (outcome_in results) led.1 lawful unqueued unawaited (none-arrives by.0 row by.2)
