-- What the end of an action makes of a bank with its clock, of its array and of the results.
use Rattle.std.specs.Prelude.{◌≡◌, ℕ, ◌+◌, ◌-◌, ◌/◌, ◌<◌, ◌≤◌, List, [], ◌∷◌, Option, None, Some}
use Rattle.cell_rows.specs.Device.{ArrayState}
use Rattle.result_rows.specs.{Table.with_outcome, declared.Outcome.Outcome}
use Rattle.result_rows.specs.declared.Outcome.TheVariants as out
use Rattle.bank_shape.specs.{Shape.slots_of, declared.BankShape.BankShape, declared.Work.Work, declared.Work.TheVariants.{Nothing, Store, Copy}, declared.answer.Keep.Keep}
use Rattle.bank_shape.specs.{declared.answer.Step.Step, declared.clock.Action.Action, declared.clock.Doing.Doing}
use Rattle.bank_shape.specs.declared.answer.Step.TheVariants as did
use Rattle.bank_shape.specs.declared.answer.Keep.TheVariants as keep
use Rattle.bank_model.specs.{Changes.item_if, Timing.{TimedEvent, ends}}
use Rattle.reg_lines.specs.Regs.{RegsState}
use Rattle.clock_laws.specs.{Completing.arrivals_by, Leads.Leads, Remaining.actions_left, State.{ClockState, next_action}}
use Rattle.bank_timing.specs.Extending.{Extends, AreOpen, IsOpen, IsQuiet, last_tick_with_drain}

-- the row of a write that is stored has no outcome yet
abbrev pub IsRecordable : {n : ℕ} → Step → List (Outcome n) → Type 0
IsRecordable (did.Stored row place) results = IsOpen results row
IsRecordable _ results = Unit {0}

-- the results after a step of a line write: a write that is stored has its outcome
abbrev pub step_recorded : {n : ℕ} → Step → ℕ → List (Outcome n) → List (Outcome n)
step_recorded (did.Stored row place) tick results = with_outcome results row (out.Stored tick place)
step_recorded _ tick results = results

-- how often the present line write was cancelled, after a step of the bank's, and after one of the writing of a change
abbrev pub cancels_by_step : Step → ℕ → ℕ
cancels_by_step did.More count = count
cancels_by_step _ count = 0

abbrev pub cancels_by_keep : Keep → ℕ → ℕ
cancels_by_keep keep.More count = count
cancels_by_keep _ count = 0

-- the region of a work
abbrev pub region_of : BankShape → Work → ℕ
region_of shape Nothing = 0
region_of shape (Store line slot) = line / shape.lines
region_of shape (Copy region step) = region

-- the item that a step of a line write for this work changes: the work's region, the spare whose array line is given, or the mark
abbrev pub item_from : BankShape → Work → Step → Option ℕ
item_from shape work did.More = None
item_from shape work (did.Stored row place) = item_if shape.home (region_of shape work)
item_from shape work (did.Moved step) = item_if shape.home (region_of shape work)
item_from shape work (did.Retired slot line) = item_if shape.home (shape.regions + (line - slots_of shape))
item_from shape work did.Exhausted = item_if shape.home (shape.regions + shape.spares)

module _ {n m e : ℕ} where
  -- the clock with other arrival ticks
  abbrev pub with_arrivals : List ℕ → ClockState n m e → ClockState n m e
  with_arrivals arrivals clock =
      record { bank = clock.bank; regs = clock.regs; pace = clock.pace; tick = clock.tick; action = clock.action; arrivals = arrivals; cancels = clock.cancels; drained = clock.drained }

  -- with other control lines
  abbrev pub with_regs : RegsState n m e → ClockState n m e → ClockState n m e
  with_regs regs clock =
      record { bank = clock.bank; regs = regs; pace = clock.pace; tick = clock.tick; action = clock.action; arrivals = clock.arrivals; cancels = clock.cancels; drained = clock.drained }

  -- after a step of the bank's line write was recorded
  abbrev pub recorded_clock : Step → ClockState n m e → ClockState n m e
  recorded_clock step clock =
      record { bank = clock.bank; regs = clock.regs; pace = clock.pace; tick = clock.tick; action = clock.action; arrivals = arrivals_by step clock.arrivals; cancels = cancels_by_step step clock.cancels; drained = clock.drained }

-- an action of a kind runs from now on and may end: some history leads to the bank over this array, and its tick is one that no drain
-- passes
pub record MayEnd {n m e : ℕ} (clock : ClockState n m e) (action : Action) (kind : Doing) (array : ArrayState n m) : Type 0 where
  pub led : (xs : List (TimedEvent n m)) × Leads xs clock array
  pub next : next_action clock ≡ Some action
  pub doing : action.doing ≡ kind
  pub within : clock.tick ≤ last_tick_with_drain

-- it may be completed: it may end, and the rows that stand have no outcome yet
pub record MayComplete {n m e : ℕ} (clock : ClockState n m e) (action : Action) (kind : Doing) (array : ArrayState n m) (results : List (Outcome n)) : Type 0 where
  pub ends : MayEnd clock action kind array
  pub unset : AreOpen clock.bank results

-- the action ended at its last tick, and no action runs; each history that led to the bank is extended by one event, which ends an
-- action; no row came, and less is left to do
pub record Completes {n m e : ℕ} (old new : ClockState n m e) (action : Action) (before after : ArrayState n m) (results recorded : List (Outcome n)) : Type 0 where
  pub now : new.tick ≡ ends old.pace action
  pub later : old.tick < new.tick
  pub pace : new.pace ≡ old.pace
  pub drained : new.drained ≡ old.drained
  pub none : new.action ≡ None
  pub extends : (xs : List (TimedEvent n m)) → Leads xs old before
      → (x : TimedEvent n m) × Extends xs (x ∷ []) old new before after results recorded × IsQuiet (x ∷ [])
  pub unset : AreOpen new.bank recorded
  pub bound : new.bank.rows_below ≡ old.bank.rows_below
  pub less : actions_left new.bank new.regs < actions_left old.bank old.regs
