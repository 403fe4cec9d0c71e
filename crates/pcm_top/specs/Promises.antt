-- What every call of the program promises.
use Rattle.std.specs.Prelude.{◌≡◌, ◌≢◌, ◌⊎◌, ◌≤◌, ℕ, List, true, false, Some, Err}
use Rattle.command_line.specs.declared.job.LineSize.TheVariants.{Bytes64, Bytes128}
use Rattle.command_line.specs.declared.job.Refusal.TheVariants as refusal
use Rattle.program_calls.specs.Calls.{IsTried, IsUntouched, Lent, SinkChange, SinkFails}
use Rattle.pcm_top.specs.{Calls.{AreArraysUntouched, Call, deed_of}, FaultLines.{fault_line, status_of}, Reading.{OnOverflow, SourceFails}}
use Rattle.pcm_top.specs.{Running.{Does, DoesPart, Tells, TellsPart, reads_source, room_of, runs_on, status_done}, Statuses.IsStatusFor}
use Rattle.pcm_top.specs.{declared.fault.Fault.TheVariants.{Usage, Write, TooLong, NoMemory}, declared.run.Done.Done, declared.run.Done.TheVariants.Short}

-- of a call, the place where faults are told, and the status that was answered
module _ {A V S K F : Type 0} (call : Call A V S K) (err : Lent F SinkChange) (status : ℕ) where
  -- something holds where the work was done: the status is 0 or 1
  abbrev pub OnDone : Type 0 → Type 0
  OnDone P = status ≤ status_done Short → P

  -- something holds where the work wasn't done, and that was told: the status is that of a fault, but for one
  -- of writing
  abbrev pub OnTold : Type 0 → Type 0
  OnTold P = status_of Usage ≤ status → status ≢ status_of Write → P

  -- something holds where writing failed
  abbrev pub OnBroken : Type 0 → Type 0
  OnBroken P = status ≡ status_of Write → P

  -- something holds where no count of faults rose
  abbrev pub OnNoFault : Type 0 → Type 0
  OnNoFault P = ¬ SourceFails call.source.seen → ¬ SinkFails call.out.seen → ¬ SinkFails err.seen → P

  -- the job that was asked for was done, and the status says how
  abbrev pub EndsDone : Type 0
  EndsDone = (done : Done) × Does (deed_of call) call.asked done × (status ≡ status_done done)

  -- the output failed, and has first bytes of the job's text; that is told as far as its line can be written
  abbrev pub BreaksOff : Type 0
  BreaksOff =
      DoesPart (deed_of call) call.asked × SinkFails call.out.seen × IsTried err.seen (fault_line Write)

  -- a fault which has its cause couldn't be told whole; the output is as it was, and so are the arrays but
  -- for want of memory
  abbrev pub FailsToTell : Type 0
  FailsToTell =
      (part : TellsPart call.asked call.source.seen err.seen)
      × SinkFails err.seen × IsUntouched call.out × (part.fault ≢ NoMemory → AreArraysUntouched call)

  -- the status is that of a fault of writing, since a line couldn't be written
  abbrev pub IsUntold : Type 0
  IsUntold = (status ≡ status_of Write) × SinkFails err.seen

  -- the source tells these bytes, if it is read
  abbrev pub IsGiven : List ℕ → Type 0
  IsGiven bytes = reads_source call.asked ≡ true → call.source.seen.left_before ≡ Some bytes

  -- the status is one that words and bytes decide, or memory ran out
  abbrev pub IsDecidedBy : List ℕ → Type 0
  IsDecidedBy bytes = IsStatusFor call.asked bytes status ⊎ (status ≡ status_of NoMemory)

  -- what holds of every call
  pub record KeepsPromises : Type 0 where
    -- The work was done: a run was made that left what is right, and exactly its text was written; or exactly
    -- a report, or the verdict on results, was written. The status of a run is 1 exactly where some row falls
    -- short, and that of a check where the verdict isn't ok.
    pub done : OnDone EndsDone
    pub silent : OnDone (IsUntouched err)
    -- It was not: the status is that of a fault which has its cause, and its line was written.
    pub told : OnTold (Tells call.asked call.source.seen err.seen status)
    pub unwritten : OnTold (IsUntouched call.out)
    pub untouched : OnTold (status ≢ status_of NoMemory → AreArraysUntouched call)
    -- Writing failed: the text of the job, or the line of another fault.
    pub broken : OnBroken (BreaksOff ⊎ FailsToTell)
    -- Only a run of a trace that is read, `show` and a check touch the source, and only a run over lines of
    -- its size an array.
    pub unread : reads_source call.asked ≡ false → IsUntouched call.source
    pub narrow : runs_on Bytes64 call.asked ≡ false → IsUntouched call.array
    pub wide : runs_on Bytes128 call.asked ≡ false → IsUntouched call.wide
    -- Words that ask for no job touch nothing else; memory may run out while they are read.
    pub usage : call.asked ≡ Err refusal.Usage
        → ((status ≡ status_of Usage) ⊎ (status ≡ status_of NoMemory) ⊎ IsUntold) × IsUntouched call.out
    -- More bytes than there may be are always answered with the status for that.
    pub too_long : OnOverflow (room_of call.asked) call.source.seen ((status ≡ status_of TooLong) ⊎ IsUntold)
    -- Where nothing fails, words and bytes decide the status, but for the rows of a run that is made, or
    -- memory runs out.
    pub exact : (bytes : List ℕ) → IsGiven bytes → OnNoFault (IsDecidedBy bytes)
