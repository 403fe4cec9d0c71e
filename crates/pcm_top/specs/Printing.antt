-- What the printing of a run asks for, and what it leaves.
use Rattle.std.specs.Prelude.{◌≡◌, ◌*◌, ℕ, List}
use Rattle.cell_rows.specs.Device.{ArrayState}
use Rattle.trace_reader.specs.declared.event.Event.{Event}
use Rattle.result_rows.specs.declared.Outcome.{Outcome}
use Rattle.module_shape.specs.{Addresses.{array_lines_of, module_of}, Limits.IsShape}
use Rattle.run_text.specs.ResultText.{ArePrintable}
use Rattle.command_line.specs.declared.job.RunJob.{RunJob}
use Rattle.pcm_module.specs.State.{ModuleState}
use Rattle.module_prints.specs.Images.{HasImage}
use Rattle.pcm_top.specs.Played.{IsPlayed}

-- the run of a job can be printed: the module has replayed its events to the end, over an array of its size, and each row has its text
pub record MayPrint {n m e : ℕ} (job : RunJob) (pcm : ModuleState n m e)
    (events : List (Event n)) (outcomes : List (Outcome n)) (array : ArrayState n m) : Type 0 where
  pub printable : ArePrintable events outcomes
  pub seed : job.seed ≡ pcm.seed
  pub shape : IsShape pcm.shape
  pub image : HasImage pcm
  pub played : IsPlayed pcm events outcomes array
  pub size : array.lines ≡ pcm.shape.banks * array_lines_of (module_of pcm.shape)
