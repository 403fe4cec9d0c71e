-- How the parts of a call end.
use Rattle.std.specs.Prelude.{◌≡◌, ◌≢◌, ◌≤◌, ℕ, List, false, Result, Err, IfOk, IfErr, OnOk, OnErr}
use Rattle.cell_rows.specs.Device.{ArrayState}
use Rattle.trace_reader.specs.declared.event.Event.{Event}
use Rattle.pcm_io.specs.declared.WriteFault.{WriteFault}
use Rattle.command_line.specs.{declared.job.CheckJob.CheckJob, declared.job.LineSize.TheVariants.{Bytes64, Bytes128}, declared.job.RunJob.RunJob}
use Rattle.pcm_image.specs.declared.ImageFault.{ImageFault}
use Rattle.program_calls.specs.Calls.{Gets, GetsPart, IsTried, IsUntouched, Lent, SinkChange, SinkFails, SourceChange}
use Rattle.pcm_top.specs.{Calls.{AreArraysUntouched, Call, deed_of}, Checking.{IsCheckFault, TellsVerdict, TellsVerdictInPart, room_line}, FaultLines.{fault_line, status_of}}
use Rattle.pcm_top.specs.{Inputs.{ComeFrom, IsFaultOf, is_source}, Reading.{NeverFails, OnOverflow, trace_room}}
use Rattle.pcm_top.specs.Running.{Does, DoesPart, HasCause, RunIsWritten, RunIsWrittenInPart, reads_source, room_of, runs_on}
use Rattle.pcm_top.specs.{Showing.{IsImageFault, IsShowFault, ShowsImage, ShowsImageInPart, ShowsText, ShowsTextInPart}, declared.fault.Fault.Fault}
use Rattle.pcm_top.specs.{declared.fault.Fault.TheVariants.{Write, TooLong, NoMemory, Usage}, declared.run.Done.Done}

-- how a fault is told: this becomes of its line, and this status is answered
pub record IsToldOf (fault : Fault) (err : SinkChange) (status : ℕ) : Type 0 where
  pub told : status ≢ status_of Write → (status ≡ status_of fault) × Gets err (fault_line fault)
  pub part : GetsPart err (fault_line fault)
  pub tried : IsTried err (fault_line fault)
  pub broken : status ≡ status_of Write → fault ≢ Write → SinkFails err
  pub statuses : (status_of Usage ≤ status) × (status ≤ status_of NoMemory)
  pub write : fault ≡ Write → status ≡ status_of Write

-- something holds of a fault that isn't one of writing
abbrev pub OnOther : {T : Type 0} → Result T Fault → (Fault → Type 0) → Type 0
OnOther result P = IfErr result (λ fault. fault ≢ Write → P fault)

-- how a part that writes ends: it does this; or, where writing fails, this much of it; or it stops at a fault
-- that has its cause, before the first byte is written
pub record Ends {T K : Type 0} (does : T → Type 0) (in_part : Type 0) (stops : Fault → Type 0)
    (out : Lent K SinkChange) (result : Result T Fault) : Type 0 where
  pub done : IfOk result does
  pub write : result ≡ Err Write → in_part × SinkFails out.seen
  pub cause : OnOther result stops
  pub unwritten : OnOther result (λ fault. IsUntouched out)
  pub never_falls : out.seen.faults_before ≤ out.seen.faults_now

-- how a part that reads a source ends: it has what it reads, and no call failed; or there is a fault that has
-- its cause
pub record Gives {T : Type 0} (has : T → Type 0) (stops : Fault → Type 0)
    (source : SourceChange) (result : Result T Fault) : Type 0 where
  pub done : IfOk result has
  pub unfailing : OnOk result (NeverFails source)
  pub cause : IfErr result stops
  pub never_falls : source.faults_before ≤ source.faults_now

-- how a source is read where there is so much room: more bytes than that always end with the fault `TooLong`
pub record Reads {T : Type 0} (room : ℕ) (source : SourceChange) (result : Result T Fault) : Type 0 where
  pub too_long : OnOverflow room source (result ≡ Err TooLong)
  pub never_falls : source.faults_before ≤ source.faults_now

-- how a text is written, before which only memory may run out
abbrev pub EndsText : {T K : Type 0} → List ℕ → Lent K SinkChange → Result T Fault → Type 0
EndsText text out = Ends (λ done. Gets out.seen text) (GetsPart out.seen text) (λ fault. fault ≡ NoMemory) out

-- how the image that some bytes spell, or don't, is shown
abbrev pub EndsShown : {T K : Type 0}
    → Result (List ℕ) ImageFault → Lent K SinkChange → Result T Fault → Type 0
EndsShown shown out =
    Ends (λ done. ShowsText shown out.seen) (ShowsTextInPart shown out.seen)
    (λ fault. IsImageFault fault shown) out

-- how an image is read and shown
pub record EndsShow {T K : Type 0} (source : SourceChange) (out : Lent K SinkChange) (result : Result T Fault)
    : Type 0 where
  pub ends : Ends (λ done. ShowsImage source out.seen) (ShowsImageInPart source out.seen)
      (λ fault. IsShowFault fault source) out result
  pub reads : Reads (trace_room 64) source result

-- how results over lines of n bytes with e error-correcting pointers are checked
pub record EndsCheck {K : Type 0} (n e : ℕ) (job : CheckJob)
    (source : SourceChange) (out : Lent K SinkChange) (result : Result Done Fault) : Type 0 where
  pub ends : Ends (TellsVerdict n e job source out.seen) (TellsVerdictInPart n e job source out.seen)
      (λ fault. IsCheckFault n job fault source) out result
  pub reads : Reads (trace_room room_line) source result

-- how events are played, whichever source they came from: a run of them is made, and its text is written
pub record Plays (n m e : ℕ) (job : RunJob) (events : List (Event n)) (array : ArrayState n m)
    (out : SinkChange) (result : Result Done WriteFault) : Type 0 where
  pub done : IfOk result (λ done. (s : SourceChange) → ComeFrom n job job.input s events
      → RunIsWritten n m e job s array out done)
  pub in_part : OnErr result ((s : SourceChange) → ComeFrom n job job.input s events
      → RunIsWrittenInPart n m e job s array out)
  pub fault : OnErr result (SinkFails out)
  pub never_falls : out.faults_before ≤ out.faults_now

-- how a run over lines of n bytes with m check bytes and e error-correcting pointers ends
pub record EndsRun {A S K : Type 0} (n m e : ℕ) (job : RunJob) (array : Lent A (ArrayState n m))
    (source : Lent S SourceChange) (out : Lent K SinkChange) (result : Result Done Fault) : Type 0 where
  pub ends : Ends (RunIsWritten n m e job source.seen array.seen out.seen)
      (RunIsWrittenInPart n m e job source.seen array.seen out.seen)
      (λ fault. IsFaultOf n job job.input fault source.seen) out result
  pub reads : Reads (trace_room n) source.seen result
  pub untouched : OnOther result (λ fault. fault ≢ NoMemory → IsUntouched array)
  pub unread : is_source job.input ≡ false → IsUntouched source

-- how a job ends
pub record EndsJob {A V S K : Type 0} (call : Call A V S K) (result : Result Done Fault) : Type 0 where
  pub ends : Ends (Does (deed_of call) call.asked) (DoesPart (deed_of call) call.asked)
      (λ fault. HasCause fault call.asked call.source.seen) call.out result
  pub reads : Reads (room_of call.asked) call.source.seen result
  pub untouched : OnOther result (λ fault. fault ≢ NoMemory → AreArraysUntouched call)
  pub unread : reads_source call.asked ≡ false → IsUntouched call.source
  pub narrow : runs_on Bytes64 call.asked ≡ false → IsUntouched call.array
  pub wide : runs_on Bytes128 call.asked ≡ false → IsUntouched call.wide
