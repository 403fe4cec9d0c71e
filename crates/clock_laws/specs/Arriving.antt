-- The laws of a write and of a read that arrive.
use Rattle.std.specs.Prelude.{◌≡◌, ℕ, ◌&&◌, not, nat_lt, length, false, Bool, if◌then◌else◌, List, [], ◌∷◌, ◌++◌, Option, Some, None, IsSomeAnd, slice_get, slice_set}
use Rattle.cell_rows.specs.Device.{ArrayState}
use Rattle.masked_bytes.specs.{Entries.layer_of, Masked.gives_all}
use Rattle.bank_shape.specs.{Pausing.{is_cancelling, most_cancels}, declared.answer.ReadAnswer.ReadAnswer, declared.answer.WriteAnswer.WriteAnswer, declared.clock.Action.Action}
use Rattle.bank_shape.specs.declared.clock.Doing.TheVariants.{Beginning}
use Rattle.bank_shape.specs.declared.answer.WriteAnswer.TheVariants as wrote
use Rattle.bank_shape.specs.declared.answer.ReadAnswer.TheVariants as came
use Rattle.bank_invariant.specs.{Holds.Holds, Serving.read_from, State.BankState}
use Rattle.power_recovery.specs.Kept.{KeptState, next_work}
use Rattle.bank_model.specs.{After.is_store_of, Events.{BankEvent, Write, Read, RowsBelow}, Timing.{TimedEvent, Core, core, is_doing, is_writing}}
use Rattle.reg_lines.specs.declared.Change.{Change}
use Rattle.register_laws.specs.Items.{item_values}
use Rattle.clock_laws.specs.{Leads.Leads, State.ClockState}

-- an event that arrives at a tick: nothing is sensed and nothing is pulsed
abbrev pub arrival : {n m : ℕ} → ℕ → BankEvent n → TimedEvent n m
arrival tick event = record { happens = Core event; tick = tick; first = tick; senses = []; pulsed = None; cancels = false }

-- a bank has the shape, the values of each item, the line write in progress and the lost rows of another
pub record KeepsWork {n m e : ℕ} (old new : BankState n m e) : Type 0 where
  pub shape : new.kept.shape ≡ old.kept.shape
  pub items : (item : ℕ) → item_values new.kept item ≡ item_values old.kept item
  pub running : new.running ≡ old.running
  pub lost : new.lost ≡ old.lost

-- the arrival ticks of the queue after a write at this tick, where its row then has this index in the queue: one that is accepted
-- comes last, and one that is merged brings its own tick
abbrev pub arrivals_after : ℕ → ℕ → WriteAnswer → List ℕ → List ℕ
arrivals_after tick index wrote.Accepted arrivals = arrivals ++ tick ∷ []
arrivals_after tick index (wrote.Merged old) arrivals = slice_set arrivals index tick
arrivals_after tick index wrote.Full arrivals = arrivals
arrivals_after tick index wrote.Exhausted arrivals = arrivals

-- where a row stands in the queue after a write was merged
abbrev pub IsIndexOf : {n : ℕ} → KeptState n → ℕ → ℕ → WriteAnswer → Type 0
IsIndexOf kept row index (wrote.Merged old) = IsSomeAnd (slice_get kept.entries index) (λ entry. entry.row ≡ row)
IsIndexOf kept row index answer = Unit {0}

-- whether a read of a line that begins to wait drops the begin of a store of its line. What is begun while a change stands is no store
abbrev pub drops : {n : ℕ} → KeptState n → Option Change → ℕ → Option Action → Bool
drops kept None line action = is_doing Beginning action && is_store_of line (next_work kept)
drops kept (Some change) line action = false

-- the action that runs after a read of a line
abbrev pub action_after_read : {n : ℕ} → KeptState n → Option Change → ℕ → ReadAnswer n → Option Action → Option Action
action_after_read kept change line came.Waiting action = if drops kept change line action then None else action
action_after_read kept change line answer action = action

module _ {n m e : ℕ} where
  -- the clock after a write, with this bank
  abbrev pub after_write : ClockState n m e → BankState n m e → ℕ → WriteAnswer → ClockState n m e
  after_write clock bank index answer =
      record { bank = bank; regs = clock.regs; pace = clock.pace; tick = clock.tick; action = clock.action; arrivals = arrivals_after clock.tick index answer clock.arrivals; cancels = clock.cancels; drained = clock.drained }

  -- the clock after a read, with this bank
  abbrev pub after_read : ClockState n m e → BankState n m e → ℕ → ReadAnswer n → ClockState n m e
  after_read clock bank line answer =
      record { bank = bank; regs = clock.regs; pace = clock.pace; tick = clock.tick; action = action_after_read clock.bank.kept clock.regs.change line answer clock.action; arrivals = clock.arrivals; cancels = clock.cancels; drained = clock.drained }

-- a read of this line would cancel: a begin or an iteration runs, no read waits, the present line write was cancelled less often than
-- it may be, and the queue doesn't give every byte of the line
abbrev pub cancels_for : {n m e : ℕ} → ClockState n m e → ℕ → Bool
cancels_for clock line =
    is_cancelling clock.pace.policy && (is_writing clock.action && (not (nat_lt 0 (length clock.bank.waiting))
    && (nat_lt clock.cancels most_cancels && not (gives_all (layer_of clock.bank.kept.entries line).given))))

-- a write that arrives now extends the history by its event
abbrev pub WriteLaw : Type 0
WriteLaw =
    (n m e row line index : ℕ) (bytes : List ℕ) (given : List Bool) (answer : WriteAnswer) (xs : List (TimedEvent n m))
    (clock : ClockState n m e) (bank : BankState n m e) (array : ArrayState n m)
    → Leads xs clock array → RowsBelow (core xs) row → KeepsWork clock.bank bank
    → Holds (Write row line bytes given answer ∷ core xs) bank array → IsIndexOf bank.kept row index answer
    → Leads (arrival clock.tick (Write row line bytes given answer) ∷ xs) (after_write clock bank index answer) array

-- so does a read that doesn't cancel, answered as the queue and the waiting reads say
abbrev pub ReadLaw : Type 0
ReadLaw =
    (n m e row line : ℕ) (answer : ReadAnswer n) (xs : List (TimedEvent n m)) (clock : ClockState n m e) (bank : BankState n m e) (array : ArrayState n m)
    → Leads xs clock array → cancels_for clock line ≡ false → answer ≡ read_from clock.bank line → RowsBelow (core xs) row → KeepsWork clock.bank bank
    → Holds (Read row line answer ∷ core xs) bank array
    → Leads (arrival clock.tick (Read row line answer) ∷ xs) (after_read clock bank line answer) array
