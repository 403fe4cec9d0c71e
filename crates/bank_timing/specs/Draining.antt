-- What a drain leaves.
use Rattle.std.specs.Prelude.{◌≡◌, ℕ, ◌==◌, List, [], ◌∷◌, ◌++◌, length, Option, Some, None, unwrap_or, Bool, true, false, if◌then◌else◌}
use Rattle.cell_rows.specs.Device.{ArrayState}
use Rattle.result_rows.specs.{Table.HasRow, declared.Outcome.Outcome, declared.Outcome.TheVariants.Queued}
use Rattle.masked_bytes.specs.{Entries.{has_row, RowsApart}, declared.entry.Entry.Entry}
use Rattle.bank_model.specs.{Adding.Adds, Timing.TimedEvent, Told.tick_of_row}
use Rattle.bank_laws.specs.Resting.{EndsIn}
use Rattle.clock_laws.specs.{Leads.Leads, Recording.outcome_on, State.ClockState}
use Rattle.bank_timing.specs.Extending.{outcome_in, IsOpen, IsQuiet, ended_at}

-- the outcome of the row of an entry that stays in the queue, with its arrival tick
abbrev pub queued_outcome : {n : ℕ} → List (Entry n) → List ℕ → ℕ → Option (Outcome n)
queued_outcome [] ticks row = None
queued_outcome (e ∷ es) [] row = None
queued_outcome (e ∷ es) (tick ∷ ticks) row = if e.row == row then Some (Queued tick) else queued_outcome es ticks row

-- these entries have an arrival tick each, and rows that are apart and have no outcome yet
pub record AreQueueable {n : ℕ} (es : List (Entry n)) (ticks : List ℕ) (results : List (Outcome n)) : Type 0 where
  pub told : length ticks ≡ length es
  pub apart : RowsApart es
  pub unset : (row : ℕ) → has_row es row ≡ true → IsOpen results row

-- the row of each of these entries is queued, and each other row has the outcome that it had
pub record AreQueued {n : ℕ} (es : List (Entry n)) (ticks : List ℕ) (results recorded : List (Outcome n)) : Type 0 where
  pub rows : length recorded ≡ length results
  pub outcomes : (row : ℕ) → HasRow results row → outcome_in recorded row ≡ unwrap_or (queued_outcome es ticks row) (outcome_in results row)

-- these events end actions, and extend the history to one after which the bank has nothing left to do, or the power is off, at the tick
-- of the last of them; each row has the outcome that they make of it, but a write that stands in the queue in the end is queued, with
-- the tick of its arrival
pub record DrainsTo {n m e : ℕ} (off : Bool) (xs added : List (TimedEvent n m)) (old new : ClockState n m e) (before after : ArrayState n m) (results recorded : List (Outcome n)) : Type 0 where
  pub leads : Leads (added ++ xs) new after
  pub quiet : IsQuiet added
  pub now : new.tick ≡ ended_at old.tick added
  pub idle : EndsIn off new.bank.kept.shape new.pace (added ++ xs)
  pub shape : new.bank.kept.shape ≡ old.bank.kept.shape
  pub pace : new.pace ≡ old.pace
  pub adds : Adds old.bank.kept.shape added before after
  pub rows : length recorded ≡ length results
  pub outcomes : (row : ℕ) → HasRow results row
      → outcome_in recorded row
      ≡ (if has_row new.bank.kept.entries row then Queued (tick_of_row row (added ++ xs)) else outcome_on old.bank.kept.shape added xs (outcome_in results) row)

abbrev pub Drains : {n m e : ℕ} → List (TimedEvent n m) → List (TimedEvent n m) → ClockState n m e → ClockState n m e → ArrayState n m → ArrayState n m → List (Outcome n) → List (Outcome n) → Type 0
Drains xs added old new before after results recorded = DrainsTo false xs added old new before after results recorded

-- a clock to which nothing may come any more
abbrev pub closed : {n m e : ℕ} → ClockState n m e → ClockState n m e
closed clock = record { bank = clock.bank; regs = clock.regs; pace = clock.pace; tick = clock.tick; action = clock.action; arrivals = clock.arrivals; cancels = clock.cancels; drained = true }
