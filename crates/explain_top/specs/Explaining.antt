-- The explanation of a trace and its results that a source gives.
use Rattle.std.specs.Prelude.{◌≡◌, ℕ, List, Result, Ok, Err}
use Rattle.command_line.specs.declared.job.Refusal.{Refusal}
use Rattle.explain_words.specs.declared.job.ExplainJob.{ExplainJob}
use Rattle.check_verdict.specs.declared.Verdict.{Verdict}
use Rattle.program_calls.specs.Calls.{Gets, GetsPart, SinkChange, SourceChange}
use Rattle.pcm_top.specs.{Checking.{done_on, pointers_in, room_line}, Jobs.bytes_in, Reading.ReadsWhole, declared.run.Done.Done}
use Rattle.explain_top.specs.Explained.{HasExplanation}

-- over lines of n bytes with e error-correcting pointers
module _ (n e : ℕ) (job : ExplainJob) where
  -- the source was read to its end and gave a trace and its results, of which this verdict is told, and this text of it
  pub record ReadsExplanation (s : SourceChange) (verdict : Verdict) (text : List ℕ) : Type 0 where
    pub bytes : List ℕ
    pub whole : ReadsWhole room_line s bytes
    pub has : HasExplanation n e job.check.shape job.check.seed job.strict bytes verdict text

  -- the text was written, and whether this verdict is ok says how that was done
  pub record TellsExplanation (s : SourceChange) (out : SinkChange) (done : Done) : Type 0 where
    pub verdict : Verdict
    pub text : List ℕ
    pub reads : ReadsExplanation s verdict text
    pub written : Gets out text
    pub ending : done ≡ done_on verdict

  -- first bytes of it were
  pub record TellsExplanationInPart (s : SourceChange) (out : SinkChange) : Type 0 where
    pub verdict : Verdict
    pub text : List ℕ
    pub reads : ReadsExplanation s verdict text
    pub written : GetsPart out text

-- by what became of the source and the output
module _ (s : SourceChange) (out : SinkChange) where
  -- what is asked for is done: the verdict is told and explained
  abbrev pub Does : Result ExplainJob Refusal → Done → Type 0
  Does (Err e) done = ⊥
  Does (Ok job) done = TellsExplanation (bytes_in job.check.line) (pointers_in job.check.line) job s out done

  -- the same, where only first bytes could be written
  abbrev pub DoesPart : Result ExplainJob Refusal → Type 0
  DoesPart (Err e) = ⊥
  DoesPart (Ok job) = TellsExplanationInPart (bytes_in job.check.line) (pointers_in job.check.line) job s out
