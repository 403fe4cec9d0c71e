-- That a bank tells outcomes in the order of their ticks: what it tells by an event has the event's tick.
use Rattle.std.proofs.Common.{◌≡◌, ◌⊎◌, ℕ, zero, suc, ◌<◌, ◌≤◌, ◌==◌, Bool, true, false, if◌then◌else◌, List, [], ◌∷◌, ◌++◌, Option, Some, None, IfSome, inl, inr, refl, sym, ap, subst, ◌∙◌, arith}
use Rattle.std.{specs.List.list_any, specs.Prelude.unwrap_or, proofs.lemmas.List.Elements.All-head}
use Rattle.cell_rows.specs.Device.{ArrayState}
use Rattle.masked_bytes.specs.declared.entry.Entry.{Entry}
use Rattle.result_rows.specs.{Table.{HasRow, with_outcome}, declared.Outcome.Outcome}
use Rattle.result_rows.specs.declared.Outcome.TheVariants as out
use Rattle.row_rules.specs.Answers.{is_queued}
use Rattle.bank_shape.specs.{declared.BankShape.BankShape, declared.answer.Step.Step, declared.clock.Action.Action, declared.pace.Pace.Pace}
use Rattle.bank_shape.specs.declared.answer.ReadAnswer.TheVariants as came
use Rattle.bank_shape.specs.declared.answer.Step.TheVariants as did
use Rattle.bank_shape.specs.declared.answer.WriteAnswer.TheVariants as wrote
use Rattle.bank_model.specs.{Events.{BankEvent, Write, Read, Serve, Begin, Iterate, Cut}, History.{Awaited, waits}, Lawful.Lawful, Timing.{Happens, Core, Regs, TimedEvent, core}}
use Rattle.bank_laws.specs.Outcomes.{outcome_by, outcome_with, step_outcome}
use Rattle.clock_laws.{specs.Leads.Leads, specs.Recording.outcome_on, specs.State.{ClockState, next_action}, proofs.Draining.ends-at}
use Rattle.bank_timing.specs.{Completing.Completes, Draining.{AreQueued, queued_outcome}, Extending.{EndsAction, Extends, outcome_in}}
use Rattle.bank_timing.{specs.Telling.{IsKnownAt, Tells, TellsBy, TellsUpTo, TellsInTurn}, proofs.Rows.in-set}

-- What an event makes of a row

module _ {n : ℕ} where
  known-if : (told : Bool) (tick : ℕ) (o : Outcome n) → IsKnownAt tick o → IfSome (if told then Some o else None) (λ o. IsKnownAt tick o)
  known-if true tick o is = is
  known-if false tick o is = tt

known-step : (n : ℕ) (step : Step) (tick row : ℕ) → IfSome (step_outcome {n = n} step tick row) (λ (o : Outcome n). IsKnownAt tick o)
known-step n did.More tick row = tt
known-step n (did.Stored at place) tick row = known-if (at == row) tick (out.Stored tick place) (record { at = refl; known = refl })
known-step n (did.Moved step) tick row = tt
known-step n (did.Retired slot line) tick row = tt
known-step n did.Exhausted tick row = tt

module _ {n : ℕ} where
  known-by : (ws : List Awaited) (event : BankEvent n) (tick row : ℕ) → IfSome (outcome_by ws event tick row) (λ o. IsKnownAt tick o)
  known-by ws (Write at line bytes given wrote.Accepted) tick row = tt
  known-by ws (Write at line bytes given (wrote.Merged old)) tick row = known-if (old == row) tick (out.Merged tick) (record { at = refl; known = refl })
  known-by ws (Write at line bytes given wrote.Full) tick row = known-if (at == row) tick (out.Full tick) (record { at = refl; known = refl })
  known-by ws (Write at line bytes given wrote.Exhausted) tick row = known-if (at == row) tick (out.Worn tick) (record { at = refl; known = refl })
  known-by ws (Read at line (came.Forwarded bytes)) tick row = known-if (at == row) tick (out.Forwarded tick bytes) (record { at = refl; known = refl })
  known-by ws (Read at line came.Busy) tick row = known-if (at == row) tick (out.Busy tick) (record { at = refl; known = refl })
  known-by ws (Read at line came.Waiting) tick row = tt
  known-by ws (Serve answer) tick row = known-if (answer.row == row) tick (out.Read tick answer.place answer.bytes) (record { at = refl; known = refl })
  known-by ws (Begin answer) tick row = known-step n answer tick row
  known-by ws (Iterate answer) tick row = known-step n answer tick row
  known-by ws (Cut tearing) tick row = known-if (list_any (λ (w : Awaited). w.row == row) ws) tick (out.Lost tick) (record { at = refl; known = refl })

  -- a row that something may be told of has what is told, or what it had
  either : (Are : Outcome n → Type 0) (o : Option (Outcome n)) (was before : Outcome n) → IfSome o Are → ((was ≡ before) ⊎ Are was)
      → (unwrap_or o was ≡ before) ⊎ Are (unwrap_or o was)
  either Are None was before is had = had
  either Are (Some o) was before is had = inr is

  known-with : {m : ℕ} (shape : BankShape) (xs : List (TimedEvent n m)) (h : Happens n) (tick row : ℕ) → IfSome (outcome_with shape xs h tick row) (λ o. IsKnownAt tick o)
  known-with shape xs (Core event) tick row = known-by (waits shape (core xs)) event tick row
  known-with shape xs (Regs event) tick row = tt

-- all of these events come at this tick
abbrev pub AreAt : {n m : ℕ} → ℕ → List (TimedEvent n m) → Type 0
AreAt tick [] = Unit {0}
AreAt tick (x ∷ added) = (x.tick ≡ tick) × AreAt tick added

known-on : {n m : ℕ} (shape : BankShape) (added xs : List (TimedEvent n m)) (tick : ℕ) → AreAt tick added → (before : ℕ → Outcome n) (row : ℕ)
    → (outcome_on shape added xs before row ≡ before row) ⊎ IsKnownAt tick (outcome_on shape added xs before row)
known-on shape [] xs tick at before row = inl refl
known-on {n} {m} shape (x ∷ added) xs tick at before row =
    either (λ (o : Outcome n). IsKnownAt tick o) (outcome_with shape (added ++ xs) x.happens x.tick row) (outcome_on shape added xs before row) (before row)
    (subst (λ (t : ℕ). IfSome (outcome_with shape (added ++ xs) x.happens x.tick row) (λ (o : Outcome n). IsKnownAt t o)) at.0 (known-with shape (added ++ xs) x.happens x.tick row))
    (known-on shape added xs tick at.1 before row)

-- What the writes of a queue become that stay there

module _ {n : ℕ} where
  queued-if : (told : Bool) (o : Outcome n) (rest : Option (Outcome n)) → is_queued o ≡ true → IfSome rest (λ o. is_queued o ≡ true)
      → IfSome (if told then Some o else rest) (λ o. is_queued o ≡ true)
  queued-if true o rest is others = is
  queued-if false o rest is others = others

  queued-in : (es : List (Entry n)) (ticks : List ℕ) (row : ℕ) → IfSome (queued_outcome es ticks row) (λ o. is_queued o ≡ true)
  queued-in [] ticks row = tt
  queued-in (e ∷ es) [] row = tt
  queued-in (e ∷ es) (tick ∷ ticks) row = queued-if (e.row == row) (out.Queued tick) (queued_outcome es ticks row) refl (queued-in es ticks row)

-- In which order they are told

no-later : (tick : ℕ) → tick ≤ tick
no-later tick = omega arith

earlier-still : (tick from to : ℕ) → tick ≤ from → from ≤ to → tick ≤ to
earlier-still tick from to by within = omega (arith, by, within)

pub no-earlier : (from to : ℕ) → from < to → from ≤ to
no-earlier from to before = omega (arith, before)

pub at-most : (tick to : ℕ) → to ≡ tick → tick ≤ to
at-most tick to same = omega (arith, same)

module _ {n : ℕ} {R : Type 0} (goes_on : R → R → Type 0) (table : R → List (Outcome n)) where
  pub up-none : (to : ℕ) (one : R) → TellsUpTo goes_on table to one one
  up-none to one = record { times = 0; steps = refl }

  by-later : (times from to : ℕ) (one two : R) → from ≤ to → TellsBy goes_on table times from one two → TellsBy goes_on table times to one two
  by-later zero from to one two within told = told
  by-later (suc times) from to one two within told = (told.0, told.1, earlier-still told.1 from to told.2 within, told.3, told.4)

  -- they are told up to any later tick
  pub up-later : (from to : ℕ) (one two : R) → from ≤ to → TellsUpTo goes_on table from one two → TellsUpTo goes_on table to one two
  up-later from to one two within told = record { times = told.times; steps = by-later told.times from to one two within told.steps }

  -- and go on with those of a tick
  pub up-more : (from to : ℕ) (one two three : R) → from ≤ to → TellsUpTo goes_on table from one two → Tells goes_on table (λ o. IsKnownAt to o) two three → TellsUpTo goes_on table to one three
  up-more from to one two three within told more =
      record { times = suc told.times; steps = (two, to, no-later to, by-later told.times from to one two within told.steps, more) }

  -- where none stays queued they are told in turn
  pub in-turn : (to : ℕ) (one two : R) → TellsUpTo goes_on table to one two → TellsInTurn goes_on table false one two
  in-turn to one two told = record { to = to; between = two; first = told; left = refl }

  -- so they are where those of one tick come behind
  pub behind : (from to : ℕ) (one two three : R) → from ≤ to → TellsUpTo goes_on table from one two → Tells goes_on table (λ o. IsKnownAt to o) two three → TellsInTurn goes_on table false one three
  behind from to one two three within told more = in-turn to one three (up-more from to one two three within told more)

  -- what events of one tick make known is told at that tick
  pub extends-told : {m e : ℕ} (xs added : List (TimedEvent n m)) (old new : ClockState n m e) (before after : ArrayState n m) (one two : R) (tick : ℕ)
      → Extends xs added old new before after (table one) (table two) → AreAt tick added → goes_on one two → Tells goes_on table (λ o. IsKnownAt tick o) one two
  extends-told xs added old new before after one two tick by at on = record {
    on = on;
    rows = λ row there.
        subst (λ (o : Outcome n). (o ≡ outcome_in (table one) row) ⊎ IsKnownAt tick o) (sym (by.outcomes row there))
        (known-on old.bank.kept.shape added xs tick at (outcome_in (table one)) row);
  }

  -- so is what the end of an action makes known
  pub completes-told : {m e : ℕ} (action : Action) (now new : ClockState n m e) (mid after : ArrayState n m) (one two : R)
      → 1 ≤ now.pace.read → 1 ≤ now.pace.iter → next_action now ≡ Some action → ((xs : List (TimedEvent n m)) × Leads xs now mid)
      → Completes now new action mid after (table one) (table two) → goes_on one two → Tells goes_on table (λ o. IsKnownAt new.tick o) one two
  completes-told {m} {e} action now new mid after one two read iter next led step on =
      let xs = led.0 in
      let by = step.extends xs led.1 in
      let ends = All-head (λ (x : TimedEvent n m). EndsAction x) by.0 [] by.2 in
      let lawful : Lawful now.bank.kept.shape now.pace e (by.0 ∷ xs) =
      subst (λ (shape : BankShape). Lawful shape now.pace e (by.0 ∷ xs)) by.1.shape (subst (λ (pace : Pace). Lawful new.bank.kept.shape pace e (by.0 ∷ xs)) by.1.pace by.1.leads.lawful) in
      let same : by.0.tick ≡ new.tick = ends-at xs now mid read iter led.1 by.0 action lawful ends next ∙ sym step.now in
      extends-told xs (by.0 ∷ []) now new mid after one two new.tick by.1 (same, tt) on

  -- so is an outcome of that tick
  pub set-told : (tick row : ℕ) (o : Outcome n) (one two : R) → HasRow (table one) row → table two ≡ with_outcome (table one) row o → IsKnownAt tick o → goes_on one two
      → Tells goes_on table (λ o. IsKnownAt tick o) one two
  set-told tick row o one two has set known on = record {
    on = on;
    rows = λ other there.
        subst (λ (now : Outcome n). (now ≡ outcome_in (table one) other) ⊎ IsKnownAt tick now)
        (sym (ap (λ (results : List (Outcome n)). outcome_in results other) set ∙ in-set (table one) row o other has there))
        (either (λ (o : Outcome n). IsKnownAt tick o) (if row == other then Some o else None) (outcome_in (table one) other) (outcome_in (table one) other)
        (known-if (row == other) tick o known) (inl refl));
  }

  -- the writes of a queue are told as ones that stay there
  pub left-told : (es : List (Entry n)) (ticks : List ℕ) (one two : R) → AreQueued es ticks (table one) (table two) → goes_on one two
      → Tells goes_on table (λ o. is_queued o ≡ true) one two
  left-told es ticks one two queued on = record {
    on = on;
    rows = λ row there.
        subst (λ (o : Outcome n). (o ≡ outcome_in (table one) row) ⊎ (is_queued o ≡ true)) (sym (queued.outcomes row there))
        (either (λ (o : Outcome n). is_queued o ≡ true) (queued_outcome es ticks row) (outcome_in (table one) row) (outcome_in (table one) row)
        (queued-in es ticks row) (inl refl));
  }
