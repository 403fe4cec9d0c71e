-- How a call of the program ends: its status, and a line for the user.
use Rattle.std.specs.Prelude.{◌≡◌, ◌≢◌, ℕ, List, codes, Option, Some, None}
use Rattle.program_calls.specs.Calls.{Gets, GetsPart, IsTried, IsUntouched, Lent, SinkChange, SinkFails}
use Rattle.disk_server.specs.declared.phase.Ended.{Ended}
use Rattle.disk_server.specs.declared.phase.Ended.TheVariants as by
use Rattle.disk_top.specs.{declared.outcome.DiskFault.DiskFault, declared.outcome.DiskFault.TheVariants.{Usage, CutOff, NoMessage, Read, Write, TooLong, NoMemory}}
use Rattle.disk_top.specs.declared.outcome.DiskOutcome.{DiskOutcome}
use Rattle.disk_top.specs.declared.outcome.DiskOutcome.TheVariants as ends

-- the status of the program for a fault
abbrev pub status_of : DiskFault → ℕ
status_of Usage = 2
status_of CutOff = 3
status_of NoMessage = 3
status_of Read = 4
status_of Write = 5
status_of TooLong = 6
status_of NoMemory = 7

-- and the line that is written
abbrev pub fault_line : DiskFault → List ℕ
fault_line Usage = codes "usage: pcm disk [options]\n"
fault_line CutOff = codes "message cut off\n"
fault_line NoMessage = codes "no message\n"
fault_line Read = codes "read fault\n"
fault_line Write = codes "write fault\n"
fault_line TooLong = codes "too many messages\n"
fault_line NoMemory = codes "out of memory\n"

-- why a client's session isn't done, where it isn't: it is where the client leaves, or its bytes end between two messages
abbrev pub fault_of : Ended → Option DiskFault
fault_of by.Left = None
fault_of by.Closed = None
fault_of by.Broken = Some CutOff
fault_of by.Strange = Some NoMessage
fault_of by.Unread = Some Read
fault_of by.Unwritten = Some Write
fault_of by.Endless = Some TooLong

-- and a call
abbrev pub fault_in : DiskOutcome → Option DiskFault
fault_in (ends.Served ended) = fault_of ended
fault_in ends.Usage = Some Usage
fault_in ends.NoMemory = Some NoMemory

-- how a fault is told: by its line and its status; where the line can't be written whole, the status is that of a fault of writing
pub record IsToldOf (fault : DiskFault) (err : SinkChange) (status : ℕ) : Type 0 where
  pub told : status ≢ status_of Write → (status ≡ status_of fault) × Gets err (fault_line fault)
  pub part : GetsPart err (fault_line fault)
  pub tried : IsTried err (fault_line fault)
  pub broken : status ≡ status_of Write → fault ≢ Write → SinkFails err

-- what is said of an end: status 0, and nothing more, where the work is done
abbrev pub IsStatusOf : {F : Type 0} → Option DiskFault → Lent F SinkChange → ℕ → Type 0
IsStatusOf None err status = (status ≡ 0) × IsUntouched err
IsStatusOf (Some fault) err status = IsToldOf fault err.seen status
