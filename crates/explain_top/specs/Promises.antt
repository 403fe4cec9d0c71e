-- What every call of the program promises.
use Rattle.std.specs.Prelude.{◌≡◌, ◌≢◌, ◌⊎◌, ◌≤◌, ℕ, List, true, false, Some, Err}
use Rattle.command_line.specs.declared.job.Refusal.TheVariants as refusal
use Rattle.program_calls.specs.Calls.{Gets, GetsPart, IsTried, IsUntouched, Lent, SinkChange, SinkFails}
use Rattle.pcm_top.specs.{FaultLines.status_of, Reading.{OnOverflow, SourceFails}, Running.{HasCause, reads_source, room_of, status_done}, Statuses.IsStatusFor}
use Rattle.pcm_top.specs.{declared.fault.Fault.Fault, declared.fault.Fault.TheVariants.{Usage, Write, TooLong, NoMemory}, declared.run.Done.Done}
use Rattle.pcm_top.specs.declared.run.Done.TheVariants.{Whole, Short}
use Rattle.explain_top.specs.{Calls.{Call, as_check, is_strict}, Explaining.{Does, DoesPart}, FaultLines.fault_line}

-- of a call, the place where faults are told, and the status that was answered
module _ {S K F : Type 0} (call : Call S K) (err : Lent F SinkChange) (status : ℕ) where
  -- something holds where the work was done: the status is 0 or 1
  abbrev pub OnDone : Type 0 → Type 0
  OnDone P = status ≤ status_done Short → P

  -- something holds where the work wasn't done, and that was told: the status is that of a fault, but for one of writing
  abbrev pub OnTold : Type 0 → Type 0
  OnTold P = status_of Usage ≤ status → status ≢ status_of Write → P

  -- something holds where writing failed
  abbrev pub OnBroken : Type 0 → Type 0
  OnBroken P = status ≡ status_of Write → P

  -- something holds where no count of faults rose
  abbrev pub OnNoFault : Type 0 → Type 0
  OnNoFault P = ¬ SourceFails call.source.seen → ¬ SinkFails call.out.seen → ¬ SinkFails err.seen → P

  -- the verdict was told and explained, and the status says whether it is ok
  abbrev pub EndsDone : Type 0
  EndsDone = (done : Done) × Does call.source.seen call.out.seen call.asked done × (status ≡ status_done done)

  -- a call that doesn't do its work says why, by its status and by a line: it has the cause that a check would have
  pub record Tells : Type 0 where
    pub fault : Fault
    pub cause : HasCause fault (as_check call.asked) call.source.seen
    pub answered : status ≡ status_of fault
    pub line : Gets err.seen (fault_line fault)

  -- the output failed, and has first bytes of the text; that is told as far as its line can be written
  abbrev pub BreaksOff : Type 0
  BreaksOff = DoesPart call.source.seen call.out.seen call.asked × SinkFails call.out.seen × IsTried err.seen (fault_line Write)

  -- a fault which has its cause couldn't be told whole; the output is as it was
  pub record FailsToTell : Type 0 where
    pub fault : Fault
    pub cause : HasCause fault (as_check call.asked) call.source.seen
    pub part : GetsPart err.seen (fault_line fault)
    pub fails : SinkFails err.seen
    pub unwritten : IsUntouched call.out

  -- the status is that of a fault of writing, since a line couldn't be written
  abbrev pub IsUntold : Type 0
  IsUntold = (status ≡ status_of Write) × SinkFails err.seen

  -- the source tells these bytes, if it is read
  abbrev pub IsGiven : List ℕ → Type 0
  IsGiven bytes = reads_source (as_check call.asked) ≡ true → call.source.seen.left_before ≡ Some bytes

  -- the status that the bytes have
  abbrev pub IsStatusOf : List ℕ → Type 0
  IsStatusOf bytes =
      IsStatusFor (as_check call.asked) bytes status
      ⊎ ((is_strict call.asked ≡ true) × (status ≡ status_done Short) × IsStatusFor (as_check call.asked) bytes (status_done Whole))

  -- what holds of every call
  pub record KeepsPromises : Type 0 where
    -- The work was done: the source was read to its end, and exactly the verdict's line and what is told behind it was written. The status
    -- is 1 exactly where the verdict isn't ok.
    pub done : OnDone EndsDone
    pub silent : OnDone (IsUntouched err)
    -- It was not: the status is that of a fault which has its cause, and its line was written; nothing else was.
    pub told : OnTold Tells
    pub unwritten : OnTold (IsUntouched call.out)
    -- Writing failed: the text, or the line of another fault.
    pub broken : OnBroken (BreaksOff ⊎ FailsToTell)
    -- Words that ask for nothing touch nothing; memory may run out while they are read.
    pub unread : reads_source (as_check call.asked) ≡ false → IsUntouched call.source
    pub usage : call.asked ≡ Err refusal.Usage
        → ((status ≡ status_of Usage) ⊎ (status ≡ status_of NoMemory) ⊎ IsUntold) × IsUntouched call.out
    -- More bytes than there may be are always answered with the status for that.
    pub too_long : OnOverflow (room_of (as_check call.asked)) call.source.seen ((status ≡ status_of TooLong) ⊎ IsUntold)
    -- Where nothing fails, the status is the one that words and bytes have of a check, or memory ran out; where more is asked of worn rows,
    -- it may be 1 where that of a check is 0.
    pub status_is : (bytes : List ℕ) → IsGiven bytes → OnNoFault (IsStatusOf bytes ⊎ (status ≡ status_of NoMemory))
