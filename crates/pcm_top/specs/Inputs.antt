-- Where the events of a run come from.
use Rattle.std.specs.Prelude.{◌≡◌, ℕ, Bool, true, false, List}
use Rattle.trace_reader.specs.declared.event.Event.{Event}
use Rattle.trace_gen.specs.Generated.{generated}
use Rattle.module_shape.specs.Limits.{total_of}
use Rattle.command_line.specs.{declared.job.Input.Input, declared.job.Input.TheVariants.{Source, Drawn}, declared.job.RunJob.RunJob}
use Rattle.program_calls.specs.Calls.{SourceChange}
use Rattle.pcm_top.specs.{Reading.{IsReadFault, ReadsTrace, TakesNothing}, declared.fault.Fault.Fault, declared.fault.Fault.TheVariants.NoMemory}

-- whether an input is the program's source
abbrev pub is_source : Input → Bool
is_source Source = true
is_source (Drawn mix) = false

module _ (n : ℕ) (job : RunJob) where
  -- the events are those of the trace that the source gives, read to its end; or those that the seed draws,
  -- and nothing is read
  abbrev pub ComeFrom : Input → SourceChange → List (Event n) → Type 0
  ComeFrom Source s events = ReadsTrace n (total_of job.shape) s events
  ComeFrom (Drawn mix) s events = TakesNothing s × (events ≡ generated n job.seed (total_of job.shape) mix)

  -- why there are no events: the source gave no trace, or memory ran out; where they are drawn, only memory
  -- runs out
  abbrev pub IsFaultOf : Input → Fault → SourceChange → Type 0
  IsFaultOf Source fault s = IsReadFault n (total_of job.shape) fault s
  IsFaultOf (Drawn mix) fault s = fault ≡ NoMemory
