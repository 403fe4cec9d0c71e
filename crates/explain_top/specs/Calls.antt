-- What a call of the program was given, and what it left.
use Rattle.std.specs.Prelude.{Bool, false, Result, Ok, Err}
use Rattle.command_line.specs.{declared.job.Job.Job, declared.job.Job.TheVariants.Check, declared.job.Refusal.Refusal}
use Rattle.explain_words.specs.declared.job.ExplainJob.{ExplainJob}
use Rattle.program_calls.specs.Calls.{Lent, SinkChange, SourceChange}

-- a call: what was asked for, and what was lent to do it, the source and the output
pub record Call (S K : Type 0) : Type 0 where
  pub asked : Result ExplainJob Refusal
  pub source : Lent S SourceChange
  pub out : Lent K SinkChange

-- what the same words ask of `check`
abbrev pub as_check : Result ExplainJob Refusal → Result Job Refusal
as_check (Err e) = Err e
as_check (Ok job) = Ok (Check job.check)

-- they ask more of worn rows
abbrev pub is_strict : Result ExplainJob Refusal → Bool
is_strict (Err e) = false
is_strict (Ok job) = job.strict
