-- What `check` makes of the results that a run printed.
use Rattle.std.specs.Prelude.{◌≡◌, ◌⊎◌, ℕ, List, ◌++◌, codes, Some, Ok}
use Rattle.check_text.specs.SplitLaw.{EndsItsLine}
use Rattle.command_line.specs.{Jobs.IsRun, declared.job.CheckJob.CheckJob, declared.job.Input.Input, declared.job.Input.TheVariants.{Source, Drawn}}
use Rattle.command_line.specs.{declared.job.Job.TheVariants.{Run, Check}, declared.job.Print.TheVariants.Results, declared.job.RunJob.RunJob}
use Rattle.program_calls.specs.Calls.{Gets, GetsPart, SourceChange}
use Rattle.pcm_top.specs.{Calls.Deed, Jobs.gen_text, Running.{Does, DoesPart, HasCause}, Statuses.IsStatusFor, declared.fault.Fault.Fault}
use Rattle.pcm_top.specs.{declared.fault.Fault.TheVariants.{NoMemory, Read}, declared.run.Done.Done, declared.run.Done.TheVariants.Whole}
use Rattle.program_laws.specs.Laws.{gen_with}

-- the job of `check` with the options of a run
abbrev pub check_with : RunJob → CheckJob
check_with job = record { line = job.line; shape = job.shape; seed = job.seed }

-- the trace of a run: what its source held, where its last line is ended, since results behind it would else
-- go on with that line; or the text that `gen` writes with the same options
abbrev pub IsTraceOf : RunJob → Input → SourceChange → List ℕ → Type 0
IsTraceOf job Source s trace = (s.left_before ≡ Some trace) × EndsItsLine trace
IsTraceOf job (Drawn mix) s trace = trace ≡ gen_text (gen_with job mix)

-- what a check of these bytes says is `ok`: that is what it writes, or tries to; where it isn't done the
-- source failed or memory ran out; and where nothing fails and memory suffices its status is 0
pub record SaysOk (job : CheckJob) (bytes : List ℕ) : Type 0 where
  pub done : (deed : Deed) (done : Done)
      → deed.source.left_before ≡ Some bytes → Does deed (Ok (Check job)) done
      → Gets deed.out (codes "ok\n") × (done ≡ Whole)
  pub part : (deed : Deed)
      → deed.source.left_before ≡ Some bytes → DoesPart deed (Ok (Check job))
      → GetsPart deed.out (codes "ok\n")
  pub cause : (s : SourceChange) (fault : Fault)
      → s.left_before ≡ Some bytes → HasCause fault (Ok (Check job)) s → (fault ≡ Read) ⊎ (fault ≡ NoMemory)
  pub status : (status : ℕ) → IsStatusFor (Ok (Check job)) bytes status → (status ≡ 0) ⊎ (status ≡ 7)

-- so it is of the results that a run has written behind its trace, with the same options
abbrev pub CheckedLaw : Type 0
CheckedLaw =
    (job : RunJob) (deed : Deed) (trace told results : List ℕ) (done : Done)
    → IsRun job → job.print ≡ Results → IsTraceOf job job.input deed.source trace
    → deed.out.written_before ≡ Some told → deed.out.written_now ≡ Some (told ++ results)
    → Does deed (Ok (Run job)) done → SaysOk (check_with job) (trace ++ results)
