-- What every call of the program promises.
use Rattle.std.specs.Prelude.{◌≡◌, ◌≢◌, ◌⊎◌, ◌≤◌, ℕ, List, [], Result, Err}
use Rattle.program_calls.specs.Calls.{Gets, GetsPart, IsTried, IsUntouched, Lent, SinkChange, SinkFails, SourceChange}
use Rattle.pcm_top.specs.{Ends.{Ends, Reads}, FaultLines.status_of, Reading.{OnOverflow, trace_room}, Running.status_done, declared.fault.Fault.Fault}
use Rattle.pcm_top.specs.{declared.fault.Fault.TheVariants.{Usage, Write, TooLong, NoMemory}, declared.run.Done.TheVariants.Whole}
use Rattle.view_top.specs.{FaultLines.fault_line, Showing.{IsShowFault, ShowsImage, ShowsImageInPart, room_line}}

-- a call: the words behind the program's name, and what was lent to it, the source and the output
pub record Call (S K : Type 0) : Type 0 where
  pub words : List (List ℕ)
  pub source : Lent S SourceChange
  pub out : Lent K SinkChange

-- how a fault is told: this becomes of its line, and this status is answered
pub record IsToldOf (fault : Fault) (err : SinkChange) (status : ℕ) : Type 0 where
  pub told : status ≢ status_of Write → (status ≡ status_of fault) × Gets err (fault_line fault)
  pub part : GetsPart err (fault_line fault)
  pub tried : IsTried err (fault_line fault)
  pub broken : status ≡ status_of Write → fault ≢ Write → SinkFails err
  pub statuses : (status_of Usage ≤ status) × (status ≤ status_of NoMemory)
  pub write : fault ≡ Write → status ≡ status_of Write

-- why a call doesn't do its work: it has words, or the image can't be shown
abbrev pub HasCause : {S K : Type 0} → Call S K → Fault → Type 0
HasCause call fault = ((fault ≡ Usage) × (call.words ≢ [])) ⊎ IsShowFault fault call.source.seen

-- how a call ends, before its fault is told
pub record EndsCall {S K : Type 0} (call : Call S K) (result : Result Unit Fault) : Type 0 where
  pub ends : Ends (λ done. ShowsImage call.source.seen call.out.seen) (ShowsImageInPart call.source.seen call.out.seen) (HasCause call) call.out result
  pub words : call.words ≢ [] → (result ≡ Err Usage) × IsUntouched call.source × IsUntouched call.out
  pub reads : call.words ≡ [] → Reads (trace_room room_line) call.source.seen result

-- of a call, the place where faults are told, and the status that was answered
module _ {S K F : Type 0} (call : Call S K) (err : Lent F SinkChange) (status : ℕ) where
  -- a call that doesn't do its work says why, by its status and by a line
  pub record Tells : Type 0 where
    pub fault : Fault
    pub cause : HasCause call fault
    pub answered : status ≡ status_of fault
    pub line : Gets err.seen (fault_line fault)

  -- the output failed, and has first bytes of the text; that is told as far as its line can be written
  abbrev pub BreaksOff : Type 0
  BreaksOff = ShowsImageInPart call.source.seen call.out.seen × SinkFails call.out.seen × IsTried err.seen (fault_line Write)

  -- a fault which has its cause couldn't be told whole; the output is as it was
  pub record FailsToTell : Type 0 where
    pub fault : Fault
    pub cause : HasCause call fault
    pub part : GetsPart err.seen (fault_line fault)
    pub fails : SinkFails err.seen
    pub unwritten : IsUntouched call.out

  -- what holds of every call
  pub record KeepsPromises : Type 0 where
    -- The image was shown: the source was read to its end, and exactly its text was written.
    pub done : status ≡ status_done Whole → ShowsImage call.source.seen call.out.seen × IsUntouched err
    -- It was not: the status is that of a fault which has its cause, and its line was written; nothing else was.
    pub told : status_of Usage ≤ status → status ≢ status_of Write → Tells × IsUntouched call.out
    -- Writing failed: the text, or the line of another fault.
    pub broken : status ≡ status_of Write → BreaksOff ⊎ FailsToTell
    -- There is no other status.
    pub some : (status ≡ status_done Whole) ⊎ ((status_of Usage ≤ status) × (status ≤ status_of NoMemory))
    -- Words touch nothing.
    pub usage : call.words ≢ [] → (status_of Usage ≤ status) × IsUntouched call.source × IsUntouched call.out
    -- More bytes than there may be are always answered with the status for that, where its line can be written.
    pub too_long : call.words ≡ [] → OnOverflow (trace_room room_line) call.source.seen ((status ≡ status_of TooLong) ⊎ SinkFails err.seen)
