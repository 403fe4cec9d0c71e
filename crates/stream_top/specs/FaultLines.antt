-- What a call that didn't do its work says: its status, and a line for the user.
use Rattle.std.specs.Prelude.{ℕ, List, codes}
use Rattle.program_calls.specs.FaultLines.{trace_line}
use Rattle.stream_top.specs.{declared.fault.StreamRunFault.StreamRunFault, declared.fault.StreamRunFault.TheVariants.{Usage, Trace, Read, Write, TooLong, NoMemory}}

-- the line that is written for a fault
unfoldable pub fault_line : StreamRunFault → List ℕ
fault_line Usage = codes "usage: pcm stream [options]\n"
fault_line (Trace f) = trace_line f
fault_line Read = codes "read fault\n"
fault_line Write = codes "write fault\n"
fault_line TooLong = codes "trace too long\n"
fault_line NoMemory = codes "out of memory\n"

-- the status of the program for it
abbrev pub status_of : StreamRunFault → ℕ
status_of Usage = 2
status_of (Trace f) = 3
status_of Read = 4
status_of Write = 5
status_of TooLong = 6
status_of NoMemory = 7
