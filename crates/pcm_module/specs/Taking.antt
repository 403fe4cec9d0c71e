-- What a row does to a module.
use Rattle.std.specs.Prelude.{◌≡◌, ◌≢◌, ℕ, ◌+◌, ◌*◌, ◌<◌, ◌≤◌, List, ◌∷◌, ◌++◌, length, Some, false}
use Rattle.cell_rows.specs.{Device.ArrayState, declared.array.Sense.Sense}
use Rattle.result_rows.specs.{Table.HasRow, declared.Outcome.Outcome}
use Rattle.trace_reader.specs.{Events.IsEventFor, declared.event.Event.Event}
use Rattle.bank_model.specs.Timing.{TimedEvent}
use Rattle.module_shape.specs.{Addresses.{module_of, array_lines_of}, Limits.total_of}
use Rattle.module_laws.specs.Asking.{Asked}
use Rattle.row_rules.specs.Lines.{IsOfLines}
use Rattle.bank_timing.specs.Extending.{IsOpen, last_tick, outcome_in}
use Rattle.pcm_module.specs.{Replaying.{IsReplayed, Replays}, State.{ModuleState, StandsNowhere}}

-- the array has as many lines as before and the same wear, each line from this one on is as before, and a log that is told has kept
-- its senses
pub record StaysBeyond {n m : ℕ} (own : ℕ) (before after : ArrayState n m) : Type 0 where
  pub lines : after.lines ≡ before.lines
  pub beyond : (line : ℕ) → own ≤ line → after.line line ≡ before.line line
  pub log : (told : List (Sense n m)) → after.log ≡ Some told
      → (was : List (Sense n m)) × (more : List (Sense n m)) × (before.log ≡ Some was) × (told ≡ was ++ more)
  pub wear : after.wear ≡ before.wear

-- a row may be taken: the module may go on, some histories replay what was asked of it, and the row, whose number is above those of all
-- before it, is one for the module and has no outcome yet
pub record MayTakeRow {n m e : ℕ} (row : ℕ) (event : Event n) (module_ : ModuleState n m e) (array : ArrayState n m) (results : List (Outcome n)) : Type 0 where
  pub going : module_.finished ≡ false
  pub replayed : IsReplayed module_ array results
  pub lawful : IsEventFor (total_of module_.shape) module_.tick event
  pub rises : module_.rows_below ≤ row
  pub fresh : IsOpen results row

-- so may what a row asks of the module
pub record MayTake {n m e : ℕ} (a : Asked n) (module_ : ModuleState n m e) (array : ArrayState n m) (results : List (Outcome n)) : Type 0 where
  pub replayed : IsReplayed module_ array results
  pub forward : module_.tick ≤ a.tick
  pub within : a.tick ≤ last_tick
  pub exist : IsOfLines (total_of module_.shape) a.asks
  pub rises : module_.rows_below ≤ a.row
  pub fresh : IsOpen results a.row

-- a row was taken: the histories that replayed what was asked before go on, and replay it with this row; a row that stood nowhere keeps
-- its outcome, and one behind this one stays open
pub record Takes {n m e : ℕ} (a : Asked n) (old new : ModuleState n m e) (before after : ArrayState n m) (results recorded : List (Outcome n)) : Type 0 where
  pub shape : new.shape ≡ old.shape
  pub seed : new.seed ≡ old.seed
  pub tick : new.tick ≡ a.tick
  pub rows : new.rows_below ≡ a.row + 1
  pub going : new.finished ≡ old.finished
  pub table : length recorded ≡ length results
  pub replays : (h : ℕ → List (TimedEvent n m)) (asked : List (Asked n)) → Replays h asked old before results
      → (added : ℕ → List (TimedEvent n m)) × Replays (λ bank. added bank ++ h bank) (a ∷ asked) new after recorded
  pub open_rows : (other : ℕ) → a.row < other → IsOpen results other → IsOpen recorded other
  pub others : (other : ℕ) → HasRow results other → other ≢ a.row → StandsNowhere old other → outcome_in recorded other ≡ outcome_in results other
  pub stays : StaysBeyond (old.shape.banks * array_lines_of (module_of old.shape)) before after
