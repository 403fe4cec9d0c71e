-- A module that is ready to replay a trace.
use Rattle.std.specs.Prelude.{◌≡◌, ◌≤◌, ℕ, false, List, [], Some, length, replicate}
use Rattle.pcm_io.specs.Reserved.{Reserved, reserved}
use Rattle.trace_reader.specs.{Events.AreEventsFor, declared.event.Event.Event, declared.trace.TheConstants.MOST_ROWS}
use Rattle.command_line.specs.{Jobs.IsRun, declared.job.RunJob.RunJob}
use Rattle.text_printer.specs.declared.room.TheConstants.{TEXT_ROOM}
use Rattle.cell_rows.specs.Device.{ArrayState}
use Rattle.result_rows.specs.{declared.Outcome.Outcome, declared.Outcome.TheVariants.Unset}
use Rattle.module_shape.specs.{Limits.total_of, declared.raw.RawShape.RawShape}
use Rattle.pcm_module.specs.{Replaying.Replays, State.ModuleState}

-- the module of these sizes and this seed, to which nothing was handed in yet, over an array that fits; none
-- of so many rows has an outcome
pub record IsReady {n m e : ℕ} (raw : RawShape) (seed rows : ℕ)
    (module_ : ModuleState n m e) (array : ArrayState n m) (results : List (Outcome n)) : Type 0 where
  pub shape : module_.shape ≡ raw
  pub seeded : module_.seed ≡ seed
  pub tick : module_.tick ≡ 0
  pub bound : module_.rows_below ≡ 0
  pub going : module_.finished ≡ false
  pub replays : Replays (λ bank. []) [] module_ array results
  pub open_rows : results ≡ replicate rows Unset

-- all the memory of a job's run of so many rows was taken: its module is ready, the cells' wear is drawn as the job asks, and the text
-- is empty and has its room
pub record HasTaken {n m e : ℕ} (job : RunJob) (rows : ℕ) (module_ : ModuleState n m e) (array : ArrayState n m)
    (results : List (Outcome n)) (text : Reserved) : Type 0 where
  pub ready : IsReady job.shape job.seed rows module_ array results
  pub wear : array.wear ≡ Some job.wear
  pub roomy : text ≡ reserved TEXT_ROOM

-- a job's run of these events may be played
pub record MayPlay {n m e : ℕ} (job : RunJob) (events : List (Event n)) (module_ : ModuleState n m e) (array : ArrayState n m)
    (results : List (Outcome n)) (text : Reserved) : Type 0 where
  pub asked : IsRun job
  pub lawful : AreEventsFor (total_of job.shape) 0 events
  pub rows : length events ≤ MOST_ROWS
  pub taken : HasTaken job (length events) module_ array results text
