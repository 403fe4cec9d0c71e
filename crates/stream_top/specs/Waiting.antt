-- That a stream tells before it asks.
use Rattle.std.specs.Prelude.{◌≡◌, ℕ, List, Option, Result, Ok, Err}
use Rattle.command_line.specs.{declared.job.LineSize.LineSize, declared.job.LineSize.TheVariants.{Bytes64, Bytes128}, declared.job.Refusal.Refusal}
use Rattle.module_shape.specs.Limits.{total_of}
use Rattle.stream_words.specs.{Jobs.IsStreamJob, declared.job.StreamJob.StreamJob}
use Rattle.trace_stream.specs.declared.asked.Asked.{Asked}
use Rattle.row_stream.specs.Waiting.{IsTextOf, TellsFirst}
use Rattle.stream_top.specs.{Calls.LentSource, Streams.shown_by}

-- a job's numbers are in range, and this is the text of what was told of rows that asked this
abbrev pub IsJobText : (n m e : ℕ) → StreamJob → List (Asked n) → List ℕ → Type 0
IsJobText n m e job asked text = IsStreamJob job × IsTextOf n m e job.shape job.seed (shown_by job.shape job.seed job.print) asked text

-- of texts of a job's rows, of its source, and of a sink, which had received this before
module _ {S K : Type 0} (IsText : (n m e : ℕ) → StreamJob → List (Asked n) → List ℕ → Type 0) (source : LentSource S) (received : K → Option (List ℕ)) (before : Option (List ℕ)) where
  -- before each request to the source, which gave a piece at most, all that was known had been told and written
  abbrev pub WaitsOn : (n m e : ℕ) → StreamJob → Type 0
  WaitsOn n m e job = (times : ℕ) × TellsFirst (total_of job.shape) source.left source.taken source.faults source.before received before (IsText n m e job) times source.now

  abbrev pub WaitsAt : StreamJob → LineSize → Type 0
  WaitsAt job Bytes64 = WaitsOn 64 8 6 job
  WaitsAt job Bytes128 = WaitsOn 128 16 8 job

  abbrev pub WaitsFor : Result StreamJob Refusal → Type 0
  WaitsFor (Err e) = source.now ≡ source.before
  WaitsFor (Ok job) = WaitsAt job job.line
