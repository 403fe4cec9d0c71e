-- What a stream takes before its first row.
use Rattle.std.specs.Prelude.{◌≡◌, ◌<◌, ◌^◌, ℕ, [], Some}
use Rattle.pcm_io.specs.Reserved.{Reserved, reserved}
use Rattle.cell_rows.specs.Device.{ArrayState}
use Rattle.text_printer.specs.declared.room.TheConstants.{TEXT_ROOM}
use Rattle.pcm_module.specs.State.{ModuleState}
use Rattle.row_printer.specs.declared.told.Shown.{Shown}
use Rattle.row_stream.specs.Serving.{IsServing}
use Rattle.stream_words.specs.declared.job.StreamJob.{StreamJob}

-- the memory of a stream was taken: whatever is shown, its module may serve a first row over the array, whose cells' wear is drawn as the
-- job asks; and the text is empty and has its room
pub record HasTaken {n m e : ℕ} (job : StreamJob) (module_ : ModuleState n m e) (array : ArrayState n m) (text : Reserved) : Type 0 where
  pub serving : (shown : Shown) → IsServing job.shape job.seed [] module_ array 0 [] shown []
  pub wear : array.wear ≡ Some job.wear
  pub small : job.seed < 2 ^ 64
  pub roomy : text ≡ reserved TEXT_ROOM
