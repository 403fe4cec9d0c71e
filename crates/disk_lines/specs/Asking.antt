-- What a module was asked by a disk, and by which rows its lines stand.
use Rattle.std.specs.Prelude.{◌≡◌, ℕ, ◌+◌, ◌-◌, ◌^◌, ◌<◌, ◌≤◌, ◌==◌, ◌&&◌, ◌||◌, not, nat_le, Bool, true, false, if◌then◌else◌, max, List, [], ◌∷◌, length}
use Rattle.masked_bytes.specs.Masked.{laid}
use Rattle.cell_rows.specs.Device.{ArrayState}
use Rattle.trace_reader.specs.{Rows.latest_tick, declared.event.Event.Event, declared.event.EventOp.EventOp}
use Rattle.result_rows.specs.declared.Outcome.{Outcome}
use Rattle.row_rules.specs.{Answers.accepts, Rows.{lay_row, newest}, declared.Row.Row}
use Rattle.bank_laws.specs.Outcomes.{ended}
use Rattle.trace_rows.specs.Rows.{asks_of}
use Rattle.bank_model.specs.Timing.{TimedEvent}
use Rattle.clock_laws.specs.State.{ClockState}
use Rattle.module_shape.specs.Limits.{total_of}
use Rattle.pcm_module.specs.{Asking.asked_for, State.ModuleState}
use Rattle.answered_laws.specs.Answered.{is_served_so_far}
use Rattle.read_moments.specs.Reads.{rows_by, standing}
use Rattle.row_stream.specs.Serving.{HasServed}
use Rattle.atomic_sectors.specs.declared.lines.Stopped.{Stopped}
use Rattle.atomic_sectors.specs.declared.lines.Stopped.TheVariants as why
use Rattle.disk_lines.specs.{Hearing.{Hearing, cuts_by, cuts_in, events_in, refusals_in, refuses_by, table_in}, declared.watch.Heard.Heard}

-- the most rows that come
abbrev pub most_rows : ℕ
most_rows = 4294967294

module _ {n : ℕ} where
  -- the rows that came, the newest first, as they stand: a write of which nothing is known yet is queued
  abbrev pub rows_heard : List (Heard n) → List (Row n)
  rows_heard heard = rows_by (table_in heard) (asked_for (events_in heard))

  -- the row of an event, as it stands with this outcome
  abbrev pub row_standing : Event n → Outcome n → Row n
  row_standing event outcome = standing (record { tick = event.tick; asks = asks_of event.op; outcome = outcome })

  -- an operation writes those bytes of a line that are given: it lays them over what the line had, where it is accepted, and else it is
  -- refused
  pub record IsWriteOf (place : ℕ) (bytes : List ℕ) (given : List Bool) (op : EventOp n) : Type 0 where
    pub no_cut : cuts_by op ≡ 0
    pub lays : (tick line : ℕ) (outcome : Outcome n) (under : List ℕ) → length under ≡ n
        → lay_row line (row_standing (record { tick = tick; op = op }) outcome) under
        ≡ (if (place == line) && accepts (ended tick outcome) then laid bytes given under else under)
    pub refused : (tick : ℕ) (outcome : Outcome n) (others : List (Row n))
        → is_served_so_far others (row_standing (record { tick = tick; op = op }) outcome) [] ≡ true → accepts (ended tick outcome) ≡ false
        → refuses_by outcome ≡ 1

  -- nothing comes any more: the clock is at its last tick, or all rows came
  abbrev pub has_ended : ℕ → List (Heard n) → Bool
  has_ended tick heard = nat_le latest_tick tick || nat_le most_rows (length (events_in heard))

  -- how many power cuts came and writes were refused; where nothing comes any more, the greatest u64
  abbrev pub stops_at : ℕ → List (Heard n) → ℕ
  stops_at tick heard =
      if has_ended tick heard then max (cuts_in (events_in heard) + refusals_in heard) (2 ^ 64 - 1) else cuts_in (events_in heard) + refusals_in heard

  -- why a call was stopped shows in what was heard before it and behind it: a power cut came; a write was refused; or nothing comes any more
  abbrev pub HasCause : Stopped → ℕ → List (Heard n) → List (Heard n) → Type 0
  HasCause why.Cut tick was now = cuts_in (events_in was) < cuts_in (events_in now)
  HasCause why.Worn tick was now = refusals_in was < refusals_in now
  HasCause why.Ended tick was now = has_ended tick now ≡ true
  HasCause why.Memory tick was now = ⊥

-- a module, over its array, was handed exactly the rows that were heard of, and gave exactly the outcomes that were
pub record HasHeard {n m e : ℕ} (module_ : ModuleState n m e) (array : ArrayState n m) (heard : List (Heard n)) : Type 0 where
  pub history : ℕ → List (TimedEvent n m)
  pub served : HasServed module_.shape module_.seed (events_in heard) history module_ array (table_in heard)
  pub in_time : module_.tick ≤ latest_tick

-- a bank holds as many writes as it may, and still stores them: it found a spare for each worn line, and hasn't halted
abbrev pub is_full : {n m e : ℕ} → ClockState n m e → Bool
is_full clock = nat_le clock.bank.kept.shape.writes (length clock.bank.kept.entries) && (not clock.bank.kept.exhausted && not clock.regs.halted)

-- of a module, and of what was heard of its rows, before and behind
module _ {n m e : ℕ} (old new : ModuleState n m e) where
  -- it is the same module, and no row, cut or refusal was taken back
  pub record IsLater (was now : List (Heard n)) : Type 0 where
    pub shape : new.shape ≡ old.shape
    pub seed : new.seed ≡ old.seed
    pub tick : old.tick ≤ new.tick
    pub rows : length (events_in was) ≤ length (events_in now)
    pub cuts : cuts_in (events_in was) ≤ cuts_in (events_in now)
    pub refused : refusals_in was ≤ refusals_in now

  -- a row came, at its tick: each line has the newest bytes that it had, with those of the row laid over where it is a write of the line that is
  -- accepted
  pub record TakesRow (event : Event n) (out now : Hearing n) : Type 0 where
    pub later : IsLater out.heard now.heard
    pub tick : new.tick ≡ event.tick
    pub events : events_in now.heard ≡ event ∷ events_in out.heard
    pub newest : (line : ℕ) → line < total_of old.shape
        → newest (rows_heard now.heard) line ≡ lay_row line (row_standing event now.last) (newest (rows_heard out.heard) line)
    pub refused : refusals_in out.heard + refuses_by now.last ≤ refusals_in now.heard

  -- each line has the newest bytes that it had
  abbrev pub SameLines : List (Heard n) → List (Heard n) → Type 0
  SameLines was now = (line : ℕ) → line < total_of old.shape → newest (rows_heard now) line ≡ newest (rows_heard was) line

  -- a write was accepted: it laid those bytes of one line that are given over what the line had
  abbrev pub LaysOver : (place : ℕ) (bytes : List ℕ) (given : List Bool) → List (Heard n) → List (Heard n) → Type 0
  LaysOver place bytes given was now =
      (line : ℕ) → line < total_of old.shape
      → newest (rows_heard now) line ≡ (if place == line then laid bytes given (newest (rows_heard was) line) else newest (rows_heard was) line)

  -- time passed to a tick, and no row came
  pub record Passes (to : ℕ) (was now : List (Heard n)) : Type 0 where
    pub later : IsLater was now
    pub tick : new.tick ≡ to
    pub events : events_in now ≡ events_in was
    pub same : SameLines was now
