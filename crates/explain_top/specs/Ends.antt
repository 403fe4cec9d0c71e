-- How the parts of a call end.
use Rattle.std.specs.Prelude.{◌≡◌, ◌≢◌, ◌≤◌, ℕ, false, Result}
use Rattle.explain_words.specs.declared.job.ExplainJob.{ExplainJob}
use Rattle.program_calls.specs.Calls.{Gets, GetsPart, IsTried, IsUntouched, Lent, SinkChange, SinkFails, SourceChange}
use Rattle.pcm_top.specs.{Checking.{IsCheckFault, room_line}, Ends.{Ends as EndsBy, Reads}, FaultLines.status_of, Reading.trace_room}
use Rattle.pcm_top.specs.{Running.{HasCause, reads_source, room_of}, declared.fault.Fault.Fault, declared.fault.Fault.TheVariants.{Usage, Write, NoMemory}}
use Rattle.pcm_top.specs.declared.run.Done.{Done}
use Rattle.explain_top.specs.{Calls.{Call, as_check}, Explaining.{Does, DoesPart, TellsExplanation, TellsExplanationInPart}, FaultLines.fault_line}

-- how a fault is told: this becomes of its line, and this status is answered
pub record IsToldOf (fault : Fault) (err : SinkChange) (status : ℕ) : Type 0 where
  pub told : status ≢ status_of Write → (status ≡ status_of fault) × Gets err (fault_line fault)
  pub part : GetsPart err (fault_line fault)
  pub tried : IsTried err (fault_line fault)
  pub broken : status ≡ status_of Write → fault ≢ Write → SinkFails err
  pub statuses : (status_of Usage ≤ status) × (status ≤ status_of NoMemory)
  pub write : fault ≡ Write → status ≡ status_of Write

-- how the verdict on results over lines of n bytes with e error-correcting pointers is explained: as it is told by a check, but for the text
pub record EndsExplanation {K : Type 0} (n e : ℕ) (job : ExplainJob)
    (source : SourceChange) (out : Lent K SinkChange) (result : Result Done Fault) : Type 0 where
  pub ends : EndsBy (TellsExplanation n e job source out.seen) (TellsExplanationInPart n e job source out.seen)
      (λ fault. IsCheckFault n job.check fault source) out result
  pub reads : Reads (trace_room room_line) source result

-- how a call ends, before its fault is told
pub record EndsCall {S K : Type 0} (call : Call S K) (result : Result Done Fault) : Type 0 where
  pub ends : EndsBy (Does call.source.seen call.out.seen call.asked) (DoesPart call.source.seen call.out.seen call.asked)
      (λ fault. HasCause fault (as_check call.asked) call.source.seen) call.out result
  pub reads : Reads (room_of (as_check call.asked)) call.source.seen result
  pub unread : reads_source (as_check call.asked) ≡ false → IsUntouched call.source
