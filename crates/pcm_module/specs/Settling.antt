-- How far the banks of a module were brought to a tick.
use Rattle.std.specs.Prelude.{◌≡◌, ℕ, ◌*◌, ◌<◌, ◌≤◌, List, ◌++◌, length, IsSomeAnd, slice_get}
use Rattle.cell_rows.specs.Device.{ArrayState}
use Rattle.result_rows.specs.{Table.HasRow, declared.Outcome.Outcome}
use Rattle.bank_model.specs.Timing.{TimedEvent}
use Rattle.module_shape.specs.Addresses.{module_of, array_lines_of}
use Rattle.module_laws.specs.Asking.{Asked}
use Rattle.clock_laws.specs.State.{ClockState}
use Rattle.bank_timing.specs.Extending.{IsOpen, IsQuiet, outcome_in, last_tick}
use Rattle.pcm_module.specs.{Replaying.{Replays, ReplaysIn, IsReplayed}, State.{ModuleState, StandsNowhere}, Taking.StaysBeyond}

-- a bank has come to a tick
abbrev pub IsAtTick : {n m e : ℕ} → ℕ → ClockState n m e → Type 0
IsAtTick tick clock = clock.tick ≡ tick

module _ {n m e : ℕ} (tick : ℕ) (module_ : ModuleState n m e) where
  -- a module with these banks may be brought to the tick: it isn't past it, and some histories replay what was asked of it
  pub record MaySettle (banks : List (ClockState n m e)) (array : ArrayState n m) (results : List (Outcome n)) : Type 0 where
    pub same : module_.banks ≡ banks
    pub count : length banks ≡ module_.shape.banks
    pub forward : module_.tick ≤ tick
    pub within : tick ≤ last_tick
    pub led : IsReplayed module_ array results

  -- the banks that came have come to the tick, and all others are as before; each bank's history goes on, and replays what was asked
  -- before, by ends of actions alone; a row that stands in no bank keeps its outcome, and one that is still to come stays open
  pub record AreSettled (came : ℕ → Type 0) (banks : List (ClockState n m e)) (before after : ArrayState n m) (results recorded : List (Outcome n)) : Type 0 where
    pub count : length banks ≡ module_.shape.banks
    pub ahead : (bank : ℕ) → (came bank → ⊥) → slice_get banks bank ≡ slice_get module_.banks bank
    pub settled : (bank : ℕ) → came bank → IsSomeAnd (slice_get banks bank) (IsAtTick tick)
    pub rows : length recorded ≡ length results
    pub replays : (h : ℕ → List (TimedEvent n m)) (asked : List (Asked n)) → Replays h asked module_ before results
        → (added : ℕ → List (TimedEvent n m)) × ((bank : ℕ) → bank < module_.shape.banks
        → IsSomeAnd (slice_get banks bank) (ReplaysIn (record module_ { tick = tick }) bank (added bank ++ h bank) asked after recorded))
        × ((bank : ℕ) → IsQuiet (added bank))
    pub open_rows : (row : ℕ) → module_.rows_below ≤ row → IsOpen results row → IsOpen recorded row
    pub others : (row : ℕ) → HasRow results row → StandsNowhere module_ row → outcome_in recorded row ≡ outcome_in results row
    pub stays : StaysBeyond (module_.shape.banks * array_lines_of (module_of module_.shape)) before after
