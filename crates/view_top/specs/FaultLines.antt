-- What a call that didn't do its work says: the line of `pcm show` for the fault, but for words, of which there are none.
use Rattle.std.specs.Prelude.{ℕ, List, codes}
use Rattle.pcm_top.specs.{declared.fault.Fault.Fault, declared.fault.Fault.TheVariants.{Usage, Trace, Results, Image, Read, Write, TooLong, NoMemory}}
use Rattle.pcm_top.specs.FaultLines as show

-- there are no other options
abbrev pub usage_text : List ℕ
usage_text = codes "usage: pcm view\n"

-- the line that is written for a fault
unfoldable pub fault_line : Fault → List ℕ
fault_line Usage = usage_text
fault_line (Trace f) = show.fault_line (Trace f)
fault_line (Results row) = show.fault_line (Results row)
fault_line (Image f) = show.fault_line (Image f)
fault_line Read = show.fault_line Read
fault_line Write = show.fault_line Write
fault_line TooLong = show.fault_line TooLong
fault_line NoMemory = show.fault_line NoMemory
