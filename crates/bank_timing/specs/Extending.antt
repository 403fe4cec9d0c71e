-- What a call makes of a bank with its clock, of its array and of the results, by the events that it adds to the history.
use Rattle.std.specs.Prelude.{◌≡◌, ◌≢◌, ℕ, ◌+◌, ◌^◌, true, false, IsTrue, List, [], ◌∷◌, ◌++◌, length, min, Option, None, Some, All, unwrap_or}
use Rattle.cell_rows.specs.Device.{ArrayState}
use Rattle.result_rows.specs.{Table.{HasRow, outcome_at}, declared.Outcome.Outcome, declared.Outcome.TheVariants.Unset}
use Rattle.masked_bytes.specs.{Entries.has_row, declared.entry.Entry.Entry}
use Rattle.bank_shape.specs.{Shape.{controls_of, controls_from}, declared.BankShape.BankShape, declared.clock.Action.Action, declared.pace.Pace.Pace}
use Rattle.bank_shape.specs.declared.waiting.Waiting.{Waiting}
use Rattle.bank_model.specs.{Adding.Adds, Events.BankEvent, Timing.{TimedEvent, ends}}
use Rattle.reg_lines.specs.Regs.{RegsState}
use Rattle.bank_laws.specs.Ticks.{ends_action}
use Rattle.bank_invariant.specs.State.{BankState, first_bank}
use Rattle.clock_laws.specs.{Arriving.arrival, Leads.Leads, Recording.outcome_on, Standing.has_waiting, State.{ClockState, next_action}}

-- the control lines of a bank that was just made, with no change
abbrev pub first_regs : {n m e : ℕ} → BankShape → RegsState n m e
first_regs shape = record { base = controls_from shape; items = controls_of shape; change = None; halted = false; writer = None }

-- a bank that was just made, at tick 0
abbrev pub first_clock : {n m e : ℕ} → BankShape → Pace → ClockState n m e
first_clock shape pace = record { bank = first_bank shape; regs = first_regs shape; pace = pace; tick = 0; action = None; arrivals = []; cancels = 0; drained = false }

-- the greatest tick at which anything arrives, and one that no bank reaches before it has nothing left to do
abbrev pub last_tick : ℕ
last_tick = 2 ^ 40

abbrev pub last_tick_with_drain : ℕ
last_tick_with_drain = 2 ^ 41

-- the tick at which an action ends, but at most this one; this one where there is none
abbrev pub end_by : ℕ → Pace → Option Action → ℕ
end_by to pace None = to
end_by to pace (Some action) = min (ends pace action) to

-- so it is of the action that runs from now on
abbrev pub next_end : {n m e : ℕ} → ℕ → ClockState n m e → ℕ
next_end to clock = end_by to clock.pace (next_action clock)

-- the outcome of a row in a table
abbrev pub outcome_in : {n : ℕ} → List (Outcome n) → ℕ → Outcome n
outcome_in results row = unwrap_or (outcome_at results row) Unset

-- a row is in the results, and has no outcome yet
pub record IsOpen {n : ℕ} (results : List (Outcome n)) (row : ℕ) : Type 0 where
  pub exists : HasRow results row
  pub unset : outcome_at results row ≡ Some Unset

-- each row of these entries, and of these waiting reads, has no outcome yet
pub record StandOpen {n : ℕ} (es : List (Entry n)) (ws : List (Waiting n)) (results : List (Outcome n)) : Type 0 where
  pub queued : (row : ℕ) → has_row es row ≡ true → IsOpen results row
  pub waiting : (row : ℕ) → has_waiting ws row ≡ true → IsOpen results row

-- the rows that stand in the queue of a bank, and those that wait, have no outcome yet
abbrev pub AreOpen : {n m e : ℕ} → BankState n m e → List (Outcome n) → Type 0
AreOpen bank results = StandOpen bank.kept.entries bank.waiting results

-- each row that neither stood in the queue of this bank nor waited there keeps its outcome
abbrev pub LeavesOthers : {n m e : ℕ} → BankState n m e → List (Outcome n) → List (Outcome n) → Type 0
LeavesOthers bank results recorded =
    (row : ℕ) → HasRow results row → has_row bank.kept.entries row ≡ false → has_waiting bank.waiting row ≡ false
    → outcome_in recorded row ≡ outcome_in results row

-- so does each other row but this one
abbrev pub LeavesOthersThan : {n m e : ℕ} → ℕ → BankState n m e → List (Outcome n) → List (Outcome n) → Type 0
LeavesOthersThan arrives bank results recorded =
    (row : ℕ) → HasRow results row → row ≢ arrives → has_row bank.kept.entries row ≡ false → has_waiting bank.waiting row ≡ false
    → outcome_in recorded row ≡ outcome_in results row

-- an event ends an action: it is a serve, a begin or an iteration
abbrev pub EndsAction : {n m : ℕ} → TimedEvent n m → Type 0
EndsAction x = IsTrue (ends_action x.happens)

-- each of these events ends an action: none is an arrival or a power cut
abbrev pub IsQuiet : {n m : ℕ} → List (TimedEvent n m) → Type 0
IsQuiet added = All (λ x. EndsAction x) added

-- these events extend the history: they lead to what the call leaves, they are all that it did to the array, and each row has the
-- outcome that they make of it, or else the one that it had
pub record Extends {n m e : ℕ} (xs added : List (TimedEvent n m)) (old new : ClockState n m e) (before after : ArrayState n m) (results recorded : List (Outcome n)) : Type 0 where
  pub leads : Leads (added ++ xs) new after
  pub shape : new.bank.kept.shape ≡ old.bank.kept.shape
  pub pace : new.pace ≡ old.pace
  pub adds : Adds old.bank.kept.shape added before after
  pub rows : length recorded ≡ length results
  pub outcomes : (row : ℕ) → HasRow results row → outcome_in recorded row ≡ outcome_on old.bank.kept.shape added xs (outcome_in results) row

-- a bank goes on, at this tick: no row came, those that stand have no outcome yet, and each other row keeps its own
pub record GoesOn {n m e : ℕ} (tick : ℕ) (old new : ClockState n m e) (results recorded : List (Outcome n)) : Type 0 where
  pub now : new.tick ≡ tick
  pub drained : new.drained ≡ old.drained
  pub rows : new.bank.rows_below ≡ old.bank.rows_below
  pub unset : AreOpen new.bank recorded
  pub others : LeavesOthers old.bank results recorded

-- a bank goes on: it isn't drained, some history leads to it over this array, and the rows that stand in its queue or wait have no
-- outcome yet
pub record IsGoing {n m e : ℕ} (clock : ClockState n m e) (array : ArrayState n m) (results : List (Outcome n)) : Type 0 where
  pub running : clock.drained ≡ false
  pub led : (xs : List (TimedEvent n m)) × Leads xs clock array
  pub unset : AreOpen clock.bank results

-- a row arrived with this event, at the tick at which the bank stands: each history that led to the bank goes on with the event, behind
-- what comes first; the rows that stand have no outcome yet, and each row but this one and them keeps its own
pub record Arrives {n m e : ℕ} (row : ℕ) (event : BankEvent n) (first : List (TimedEvent n m) → List (TimedEvent n m)) (old new : ClockState n m e) (before after : ArrayState n m) (results recorded : List (Outcome n)) : Type 0 where
  pub now : new.tick ≡ old.tick
  pub drained : new.drained ≡ old.drained
  pub rows : new.bank.rows_below ≡ row + 1
  pub extends : (xs : List (TimedEvent n m)) → Leads xs old before
      → Extends xs (arrival old.tick event ∷ first xs) old new before after results recorded
  pub unset : AreOpen new.bank recorded
  pub others : LeavesOthersThan row old.bank results recorded

-- a bank ran on: some history leads to what it is now, each history that led to what it was is extended by events that end actions,
-- the rows that stand have no outcome yet, and the bound below which rows came is the same
pub record RunsOn {n m e : ℕ} (old new : ClockState n m e) (before after : ArrayState n m) (results recorded : List (Outcome n)) : Type 0 where
  pub led : (xs : List (TimedEvent n m)) × Leads xs new after
  pub extends : (xs : List (TimedEvent n m)) → Leads xs old before
      → (added : List (TimedEvent n m)) × Extends xs added old new before after results recorded × IsQuiet added
  pub unset : AreOpen new.bank recorded
  pub bound : new.bank.rows_below ≡ old.bank.rows_below

-- the tick of the last of these events, or this one where there is none
abbrev pub ended_at : {n m : ℕ} → ℕ → List (TimedEvent n m) → ℕ
ended_at tick [] = tick
ended_at tick (x ∷ added) = x.tick

-- so a bank ran on, and its clock stands where the last of these events came
pub record RunsDown {n m e : ℕ} (old new : ClockState n m e) (before after : ArrayState n m) (results recorded : List (Outcome n)) : Type 0 where
  pub led : (xs : List (TimedEvent n m)) × Leads xs new after
  pub extends : (xs : List (TimedEvent n m)) → Leads xs old before
      → (added : List (TimedEvent n m)) × Extends xs added old new before after results recorded × IsQuiet added × (new.tick ≡ ended_at old.tick added)
  pub unset : AreOpen new.bank recorded
  pub bound : new.bank.rows_below ≡ old.bank.rows_below
