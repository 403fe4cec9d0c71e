-- The check of a trace and its results.
use Rattle.std.specs.Prelude.{◌≡◌, ◌⊎◌, ℕ, List}
use Rattle.command_line.specs.{declared.job.CheckJob.CheckJob, declared.job.LineSize.LineSize, declared.job.LineSize.TheVariants.{Bytes64, Bytes128}}
use Rattle.check_verdict.specs.{declared.Verdict.Verdict, declared.Verdict.TheVariants.{Yes, No}}
use Rattle.check_text.specs.{Checked.{HasVerdict, IsTextFault}, VerdictText.verdict_text, declared.fault.TextFault.TextFault}
use Rattle.check_text.specs.declared.fault.TextFault.TheVariants as text
use Rattle.program_calls.specs.Calls.{Gets, GetsPart, SinkChange, SourceChange}
use Rattle.pcm_top.specs.{Reading.{ReadsWhole, NeverFails, SourceFails, TakesMore, TakesSome}, declared.fault.Fault.Fault}
use Rattle.pcm_top.specs.{declared.fault.Fault.TheVariants.{Usage, Trace, Results, Image, Read, Write, TooLong, NoMemory}, declared.run.Done.Done}
use Rattle.pcm_top.specs.declared.run.Done.TheVariants.{Whole, Short}

-- a trace and its results together may have as many bytes as a trace over lines of 256 bytes, whatever their
-- lines are: 268,435,456
abbrev pub room_line : ℕ
room_line = 256

-- the error-correcting pointers of a line of this size
abbrev pub pointers_in : LineSize → ℕ
pointers_in Bytes64 = 6
pointers_in Bytes128 = 8

-- how a check was done: wholly where each row keeps each rule
abbrev pub done_on : Verdict → Done
done_on Yes = Whole
done_on (No row rule) = Short

-- over lines of n bytes with e pointers
module _ (n e : ℕ) (job : CheckJob) where
  -- the source was read to its end and gave a trace and its results, on which this is the verdict
  pub record ReadsVerdict (s : SourceChange) (verdict : Verdict) : Type 0 where
    pub bytes : List ℕ
    pub whole : ReadsWhole room_line s bytes
    pub has : HasVerdict n e job.shape job.seed bytes verdict

  -- the verdict was written, and whether it is ok says how the check was done
  pub record TellsVerdict (s : SourceChange) (out : SinkChange) (done : Done) : Type 0 where
    pub verdict : Verdict
    pub reads : ReadsVerdict s verdict
    pub written : Gets out (verdict_text verdict)
    pub ending : done ≡ done_on verdict

  -- first bytes of it were
  pub record TellsVerdictInPart (s : SourceChange) (out : SinkChange) : Type 0 where
    pub verdict : Verdict
    pub reads : ReadsVerdict s verdict
    pub written : GetsPart out (verdict_text verdict)

-- over lines of n bytes
module _ (n : ℕ) (job : CheckJob) where
  -- the source was read to its end, and its trace with its results has this fault
  abbrev pub ReadsTextFault : TextFault → SourceChange → Type 0
  ReadsTextFault one s = (bytes : List ℕ) × ReadsWhole room_line s bytes × IsTextFault n job.shape bytes one

  -- why there is no verdict: the source was read to its end and its trace has this fault, or too many rows,
  -- or its results have; or it failed; or it gave too many bytes; or memory ran out, and no call failed
  abbrev pub IsCheckFault : Fault → SourceChange → Type 0
  IsCheckFault (Trace f) s = ReadsTextFault (text.Trace f) s
  IsCheckFault (Results row) s = ReadsTextFault (text.Results row) s
  IsCheckFault Read s = SourceFails s × TakesSome room_line s
  IsCheckFault TooLong s = (NeverFails s × TakesMore room_line s) ⊎ ReadsTextFault text.TooMany s
  IsCheckFault NoMemory s = NeverFails s × TakesSome room_line s
  IsCheckFault (Image f) s = ⊥
  IsCheckFault Usage s = ⊥
  IsCheckFault Write s = ⊥
