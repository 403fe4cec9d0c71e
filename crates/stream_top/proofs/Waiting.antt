-- That a stream tells before it asks.
use Rattle.std.proofs.Common.{◌≡◌, ℕ, zero, suc, List, Option, subst}
use Rattle.std.specs.Prelude.{Result, Ok, Err}
use Rattle.command_line.specs.{declared.job.LineSize.LineSize, declared.job.LineSize.TheVariants.{Bytes64, Bytes128}, declared.job.Refusal.Refusal}
use Rattle.module_shape.specs.Limits.{total_of}
use Rattle.row_printer.specs.declared.told.Shown.{Shown}
use Rattle.row_stream.specs.Waiting.{IsTextOf, TellsFirst}
use Rattle.stream_words.specs.{Jobs.IsStreamJob, declared.job.StreamJob.StreamJob}
use Rattle.trace_stream.specs.declared.asked.Asked.{Asked}
use Rattle.stream_top.specs.{Calls.LentSource, Streams.shown_by, Waiting.{IsJobText, WaitsAt, WaitsFor, WaitsOn}}

-- what holds of each text that was told holds where the source was asked
pub tells-so : {n : ℕ} {S K : Type 0} (lines : ℕ) (left : S → Option (List ℕ)) (taken faults : S → ℕ) (first : S) (received : K → Option (List ℕ)) (before : Option (List ℕ)) (P Q : List (Asked n) → List ℕ → Type 0)
    → ((asked : List (Asked n)) (text : List ℕ) → P asked text → Q asked text) → (times : ℕ) (source : S)
    → TellsFirst lines left taken faults first received before P times source → TellsFirst lines left taken faults first received before Q times source
tells-so lines left taken faults first received before P Q so zero source is = is
tells-so lines left taken faults first received before P Q so (suc times) source is =
    let it = is.2 in (
      is.0,
      tells-so lines left taken faults first received before P Q so times is.0 is.1,
      record { asked = it.asked; come = it.come; text = it.text; told = so it.asked it.text it.told; sink = it.sink; written = it.written },
      is.3,
      is.4,
    )

-- what a printer shows is what the job asks
pub waits-shown : {S K : Type 0} (n m e : ℕ) (job : StreamJob) (source : LentSource S) (received : K → Option (List ℕ)) (before : Option (List ℕ)) (shown : Shown) → IsStreamJob job → shown ≡ shown_by job.shape job.seed job.print
    → (times : ℕ) × TellsFirst (total_of job.shape) source.left source.taken source.faults source.before received before (IsTextOf n m e job.shape job.seed shown) times source.now
    → WaitsOn IsJobText source received before n m e job
waits-shown n m e job source received before shown lawful same waits = (
  waits.0,
  tells-so (total_of job.shape) source.left source.taken source.faults source.before received before (IsTextOf n m e job.shape job.seed shown) (IsJobText n m e job)
      (λ asked text is. (lawful, subst (λ (s : Shown). IsTextOf n m e job.shape job.seed s asked text) same is)) waits.0 source.now waits.1,
)

-- a source that isn't touched isn't asked
waits-untouched : {S K : Type 0} (source : LentSource S) (received : K → Option (List ℕ)) (before : Option (List ℕ)) (job : StreamJob) (size : LineSize) → source.now ≡ source.before
    → WaitsAt IsJobText source received before job size
waits-untouched source received before job Bytes64 same = (zero, same)
waits-untouched source received before job Bytes128 same = (zero, same)

pub waits-asleep : {S K : Type 0} (source : LentSource S) (received : K → Option (List ℕ)) (before : Option (List ℕ)) (asked : Result StreamJob Refusal) → source.now ≡ source.before
    → WaitsFor IsJobText source received before asked
waits-asleep source received before (Err e) same = same
waits-asleep source received before (Ok job) same = waits-untouched source received before job job.line same
