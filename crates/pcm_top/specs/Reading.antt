-- What a run read of its source.
use Rattle.std.specs.{Io.KnownBytes.IsAtEnd, Prelude.{◌≡◌, ℕ, ◌+◌, ◌*◌, ◌-◌, ◌^◌, ◌<◌, ◌≤◌, ◌⊎◌, List, length, Ok, Err}}
use Rattle.pcm_io.specs.{Faults.Rose, Taking.Takes}
use Rattle.trace_reader.specs.{Trace.trace_of, declared.event.Event.Event, declared.fault.ParseFault.ParseFault}
use Rattle.trace_reader.specs.declared.fault.ParseFault.TheVariants as parsing
use Rattle.program_calls.specs.Calls.{SourceChange}
use Rattle.pcm_top.specs.{declared.fault.Fault.Fault, declared.fault.Fault.TheVariants.{Usage, Trace, Image, Read, Write, TooLong, NoMemory, Results}}

-- a trace over lines of n bytes has at most so many bytes: 67,108,864 for lines of 64 bytes, 134,217,728 for
-- lines of 128
abbrev pub trace_room : ℕ → ℕ
trace_room n = n * 1048576

-- the greatest count of taken bytes
abbrev pub most_taken : ℕ
most_taken = 2 ^ 64 - 1

-- something holds where more bytes were taken than there is room for, and the count of taken bytes is not
-- near its end
abbrev pub OnOverflow : ℕ → SourceChange → Type 0 → Type 0
OnOverflow room s P = s.taken_before + room < most_taken → s.taken_before + room < s.taken_now → P

-- these bytes were taken
abbrev pub TakesBytes : SourceChange → List ℕ → Type 0
TakesBytes s bytes = Takes s.left_before s.left_now s.taken_before s.taken_now bytes

-- nothing was taken, and no call failed
pub record TakesNothing (s : SourceChange) : Type 0 where
  pub left : s.left_now ≡ s.left_before
  pub taken : s.taken_now ≡ s.taken_before
  pub faults : s.faults_now ≡ s.faults_before

-- a source's count of faults rose
abbrev pub SourceFails : SourceChange → Type 0
SourceFails s = Rose s.faults_before s.faults_now

-- no call of the source failed
abbrev pub NeverFails : SourceChange → Type 0
NeverFails s = s.faults_now ≡ s.faults_before

-- a trace over lines of n bytes
module _ (n : ℕ) where
  -- the source was read to its end and gave these bytes, no more than a trace may have
  pub record ReadsWhole (s : SourceChange) (bytes : List ℕ) : Type 0 where
    pub takes : TakesBytes s bytes
    pub ended : IsAtEnd s.left_now
    pub within : length bytes ≤ trace_room n

  -- some bytes were taken, no more than a trace may have
  abbrev pub TakesSome : SourceChange → Type 0
  TakesSome s = (bytes : List ℕ) × TakesBytes s bytes × (length bytes ≤ trace_room n)

  -- more bytes were taken than a trace may have
  abbrev pub TakesMore : SourceChange → Type 0
  TakesMore s = (bytes : List ℕ) × TakesBytes s bytes × (trace_room n < length bytes)

-- one for so many lines
module _ (n lines : ℕ) where
  -- the source was read to its end, and its trace has this fault
  abbrev pub ReadsFault : ParseFault → SourceChange → Type 0
  ReadsFault one s = (bytes : List ℕ) × ReadsWhole n s bytes × (trace_of n lines bytes ≡ Err one)

  -- why a trace gave no events: the source was read to its end and the bytes have this fault, or too many
  -- rows; or it failed; or it gave too many bytes; or memory ran out, and no call failed
  abbrev pub IsReadFault : Fault → SourceChange → Type 0
  IsReadFault (Trace f) s = ReadsFault (parsing.Trace f) s
  IsReadFault Read s = SourceFails s × TakesSome n s
  IsReadFault TooLong s = (NeverFails s × TakesMore n s) ⊎ ReadsFault parsing.TooMany s
  IsReadFault NoMemory s = NeverFails s × TakesSome n s
  IsReadFault (Image f) s = ⊥
  IsReadFault Usage s = ⊥
  IsReadFault (Results row) s = ⊥
  IsReadFault Write s = ⊥

  -- the source was read to its end, and its bytes are a trace with these events
  pub record ReadsTrace (s : SourceChange) (events : List (Event n)) : Type 0 where
    pub bytes : List ℕ
    pub whole : ReadsWhole n s bytes
    pub trace : trace_of n lines bytes ≡ Ok events
