-- A module that has replayed a trace to its end.
use Rattle.std.specs.Prelude.{◌≡◌, ℕ, List, length, reverse}
use Rattle.cell_rows.specs.Device.{ArrayState}
use Rattle.trace_reader.specs.declared.event.Event.{Event}
use Rattle.result_rows.specs.declared.Outcome.{Outcome}
use Rattle.bank_model.specs.Timing.{TimedEvent}
use Rattle.bank_timing.specs.Extending.{outcome_in}
use Rattle.module_shape.specs.declared.raw.RawShape.{RawShape}
use Rattle.right_runs.specs.{Ends.BankEnd, Runs.RunsRight}
use Rattle.run_laws.specs.Finishing.{IsFinished}
use Rattle.pcm_module.specs.{Asking.asked_for, State.{AreEndsOf, ModuleState, bank_at}}
use Rattle.pcm_top.specs.Rows.{rows_of}

-- each event has an outcome; histories of its banks, which asked for these events and gave them these
-- outcomes, led to it over the array, and nothing is left to do
pub record IsPlayed {n m e : ℕ} (pcm : ModuleState n m e)
    (events : List (Event n)) (outcomes : List (Outcome n)) (array : ArrayState n m) : Type 0 where
  pub history : ℕ → List (TimedEvent n m)
  pub one_each : length outcomes ≡ length events
  pub finished : IsFinished pcm.shape pcm.seed history (asked_for (reverse events)) (bank_at pcm) array
      (outcome_in outcomes)

-- what the replay of a trace leaves: a module of these sizes and this seed that has replayed it, whose run is right; the cells' wear
-- is drawn as before
pub record HasReplayed {n m : ℕ} (e : ℕ) (raw : RawShape) (seed : ℕ) (events : List (Event n)) (outcomes : List (Outcome n))
    (before after : ArrayState n m) (pcm : ModuleState n m e) : Type 0 where
  pub shape : pcm.shape ≡ raw
  pub seeded : pcm.seed ≡ seed
  pub played : IsPlayed pcm events outcomes after
  pub right : (ends : ℕ → BankEnd) × AreEndsOf pcm ends × RunsRight e pcm.shape pcm.seed (rows_of events outcomes) after ends
  pub wear : after.wear ≡ before.wear
