-- What every run that was made is, and what runs of drawn events are.
use Rattle.std.specs.{Io.KnownBytes.IsAtEnd, Prelude.{◌≡◌, ℕ, Bool, IsTrue, IsFalse, List, ◌∷◌, ◌++◌, All, Ok}}
use Rattle.cell_rows.specs.Device.{ArrayState}
use Rattle.trace_gen.specs.declared.mix.Mix.{Mix}
use Rattle.row_rules.specs.{Answers.{accepts, is_lost, is_queued}, declared.Asks.TheVariants.Writes, declared.Row.Row}
use Rattle.module_shape.specs.declared.raw.RawShape.{RawShape}
use Rattle.run_laws.specs.RowsOfRuns.{FindsPlace, HasRoom, NoCuts}
use Rattle.command_line.specs.{Jobs.IsRun, declared.job.GenJob.GenJob, declared.job.Input.TheVariants.{Source, Drawn}, declared.job.Job.TheVariants.Run, declared.job.RunJob.RunJob}
use Rattle.pcm_top.specs.{Calls.Deed, Jobs.gen_text, Reading.TakesBytes, Rows.rows_of, Running.{Does, DoesPart, Runs, done_by}, declared.run.Done.Done}
use Rattle.pcm_top.specs.declared.run.Done.TheVariants.{Whole}
use Rattle.program_calls.specs.Calls.{SourceChange}

-- what a run leaves of whichever trace: without a power cut no read is lost; a write that finds room in a
-- bank that isn't worn out and has no worn control line is accepted and leaves the queue; and where no power
-- cut comes and each row finds what it needs, the run is done wholly
pub record IsComplete {n m : ℕ} (e : ℕ) (raw : RawShape) (seed : ℕ)
    (array : ArrayState n m) (rows : List (Row n)) (done : Done) : Type 0 where
  pub none_lost : NoCuts rows → All (λ r. IsFalse (is_lost r.outcome)) rows
  pub room_taken : (later before : List (Row n)) (r : Row n) (line : ℕ) (bytes : List ℕ) (given : List Bool)
      → rows ≡ later ++ r ∷ before → r.asks ≡ Writes line bytes given
      → HasRoom e raw seed array before r.tick line
      → IsTrue (accepts r.outcome) × IsFalse (is_queued r.outcome)
  pub whole : NoCuts rows
      → ((later before : List (Row n)) (r : Row n)
      → rows ≡ later ++ r ∷ before → FindsPlace e raw seed array before r.tick r.asks)
      → done ≡ Whole

abbrev pub CompletenessLaw : Type 0
CompletenessLaw =
    (n m e : ℕ) (job : RunJob) (s : SourceChange) (array : ArrayState n m) (run : Runs n m e job s array)
    → IsRun job
    → IsComplete e job.shape job.seed array (rows_of run.events run.outcomes) (done_by run.outcomes)

-- the job of `gen` with the options of a run that draws its events
abbrev pub gen_with : RunJob → Mix → GenJob
gen_with job mix = record { line = job.line; shape = job.shape; seed = job.seed; mix = mix }

-- the same run of a trace that is read
abbrev pub run_of_source : RunJob → RunJob
run_of_source job = record job { input = Source }

-- what became of all but the source, over this one
abbrev pub reading : Deed → SourceChange → Deed
reading deed source = record deed { source = source }

-- what a run of drawn events does is what a run does over a source that holds the text of `gen` with the same
-- options
abbrev pub DrawnLaw : Type 0
DrawnLaw =
    (job : RunJob) (mix : Mix) (deed : Deed) (read : SourceChange)
    → IsRun job → job.input ≡ Drawn mix
    → TakesBytes read (gen_text (gen_with job mix)) → IsAtEnd read.left_now
    → ((done : Done)
    → Does deed (Ok (Run job)) done → Does (reading deed read) (Ok (Run (run_of_source job))) done)
    × (DoesPart deed (Ok (Run job)) → DoesPart (reading deed read) (Ok (Run (run_of_source job))))
