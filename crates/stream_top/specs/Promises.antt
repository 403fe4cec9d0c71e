-- What every call of the program promises.
use Rattle.std.specs.Prelude.{◌≡◌, ◌≢◌, ◌⊎◌, ℕ, ◌≤◌, false, Result, Ok, Err, IfOk, IfErr}
use Rattle.command_line.specs.{declared.job.LineSize.LineSize, declared.job.LineSize.TheVariants.{Bytes64, Bytes128}, declared.job.Refusal.Refusal}
use Rattle.command_line.specs.declared.job.Refusal.TheVariants as refusal
use Rattle.stream_words.specs.declared.job.StreamJob.{StreamJob}
use Rattle.program_calls.specs.Calls.{Gets, GetsPart, IsTried, IsUntouched, Lent, SinkChange, SinkFails}
use Rattle.stream_top.specs.{Calls.{LentSource, TellingArray}, FaultLines.{fault_line, status_of}, Streams.{BreaksOff, Streams, StreamsUpTo, is_source, status_done}}
use Rattle.stream_top.specs.{declared.done.StreamDone.StreamDone, declared.done.StreamDone.TheVariants.Short, declared.fault.StreamRunFault.StreamRunFault, declared.fault.StreamRunFault.TheVariants.{Usage, Write, NoMemory}}

-- why words give no job: they ask for none, or memory ran out
abbrev pub IsRefused : Result StreamJob Refusal → StreamRunFault → Type 0
IsRefused asked fault = (fault ≡ NoMemory) ⊎ ((fault ≡ Usage) × (asked ≡ Err refusal.Usage))

-- how a fault is told: by its line and its status, as far as the line can be written
pub record IsToldOf (fault : StreamRunFault) (err : SinkChange) (status : ℕ) : Type 0 where
  pub told : status ≢ status_of Write → (status ≡ status_of fault) × Gets err (fault_line fault)
  pub part : GetsPart err (fault_line fault)
  pub tried : IsTried err (fault_line fault)
  pub broken : status ≡ status_of Write → fault ≢ Write → SinkFails err
  pub least : status_of Usage ≤ status

-- what is said of how a stream ended: a status, and nothing more where it was served to its end
pub record IsStatusOf {F : Type 0} (result : Result StreamDone StreamRunFault) (err : Lent F SinkChange) (status : ℕ) : Type 0 where
  pub done : IfOk result (λ done. (status ≡ status_done done) × IsUntouched err)
  pub fault : IfErr result (λ fault. IsToldOf fault err.seen status)

-- a call: what was asked for, and what was lent to do it, the arrays of lines of 64 and of 128 bytes, the source and the output
pub record Call (A V S K : Type 0) : Type 0 where
  pub asked : Result StreamJob Refusal
  pub array : Lent A (TellingArray 64 8)
  pub wide : Lent V (TellingArray 128 16)
  pub source : LentSource S
  pub out : Lent K SinkChange

module _ {A V S K : Type 0} (call : Call A V S K) where
  abbrev pub IsAsleep : Type 0
  IsAsleep = (call.source.now ≡ call.source.before) × IsUntouched call.out

  -- what a job does, on the array of its lines
  abbrev pub DoesOn : StreamJob → StreamDone → LineSize → Type 0
  DoesOn job done Bytes64 = Streams 64 8 6 job call.source call.out.seen call.array.seen.0 call.array.seen.1 done
  DoesOn job done Bytes128 = Streams 128 16 8 job call.source call.out.seen call.wide.seen.0 call.wide.seen.1 done

  abbrev pub Does : Result StreamJob Refusal → StreamDone → Type 0
  Does (Err e) done = ⊥
  Does (Ok job) done = DoesOn job done job.line

  -- how far it came before the output failed
  abbrev pub BreaksOn : StreamJob → LineSize → Type 0
  BreaksOn job Bytes64 = BreaksOff 64 8 6 job call.source call.out.seen call.array.seen.0 call.array.seen.1
  BreaksOn job Bytes128 = BreaksOff 128 16 8 job call.source call.out.seen call.wide.seen.0 call.wide.seen.1

  abbrev pub Breaks : Result StreamJob Refusal → Type 0
  Breaks (Err e) = ⊥
  Breaks (Ok job) = BreaksOn job job.line

  -- how far it came, and why no further: up to a row, or there was no memory to begin with
  abbrev pub StopsOn : StreamJob → StreamRunFault → LineSize → Type 0
  StopsOn job fault Bytes64 = StreamsUpTo 64 8 6 job call.source call.out.seen call.array.seen.0 fault
  StopsOn job fault Bytes128 = StreamsUpTo 128 16 8 job call.source call.out.seen call.wide.seen.0 fault

  abbrev pub Stops : Result StreamJob Refusal → StreamRunFault → Type 0
  Stops (Err e) fault = ((fault ≡ Usage) ⊎ (fault ≡ NoMemory)) × IsAsleep
  Stops (Ok job) fault = StopsOn job fault job.line ⊎ ((fault ≡ NoMemory) × IsAsleep)

  -- the source is left alone, unless the rows come from it
  abbrev pub IsUnread : Result StreamJob Refusal → Type 0
  IsUnread (Err e) = call.source.now ≡ call.source.before
  IsUnread (Ok job) = is_source job.input ≡ false → call.source.now ≡ call.source.before

  -- and so is each array that isn't of the job's lines
  abbrev pub OthersOn : LineSize → Type 0
  OthersOn Bytes64 = IsUntouched call.wide
  OthersOn Bytes128 = IsUntouched call.array

  abbrev pub OthersUntouched : Result StreamJob Refusal → Type 0
  OthersUntouched (Err e) = IsUntouched call.array × IsUntouched call.wide
  OthersUntouched (Ok job) = OthersOn job.line

  -- how it ends
  pub record EndsCall (result : Result StreamDone StreamRunFault) : Type 0 where
    pub done : IfOk result (Does call.asked)
    pub write : result ≡ Err Write → Breaks call.asked
    pub cause : IfErr result (λ fault. fault ≢ Write → Stops call.asked fault)
    pub unread : IsUnread call.asked
    pub others : OthersUntouched call.asked

  module _ {F : Type 0} (err : Lent F SinkChange) (status : ℕ) where
    -- what holds of every call
    pub record KeepsPromises : Type 0 where
      -- The status is 0 or 1: the stream was served to its end, and exactly what was told was written; the status is 1 exactly where some row
      -- fell short, but not where it stopped at a refused row, as it was to.
      pub done : status ≤ status_done Short → (done : StreamDone) × Does call.asked done × (status ≡ status_done done)
      pub silent : status ≤ status_done Short → IsUntouched err
      -- It is another, but for 5: the stream stopped at a fault that has its cause, exactly what was known by then was written, and the fault is told.
      pub told : status_of Usage ≤ status → status ≢ status_of Write
          → (fault : StreamRunFault) × Stops call.asked fault × (status ≡ status_of fault) × Gets err.seen (fault_line fault)
      -- It is 5: the output failed, first bytes of what was told were written, and the fault's line was tried; or a fault couldn't be told whole.
      pub broken : status ≡ status_of Write
          → (Breaks call.asked × IsTried err.seen (fault_line Write)) ⊎ ((fault : StreamRunFault) × Stops call.asked fault × GetsPart err.seen (fault_line fault) × SinkFails err.seen)
      -- A source is left alone where the rows are drawn, and so is the array of the other size of line.
      pub unread : IsUnread call.asked
      pub others : OthersUntouched call.asked
