-- What a call that didn't do its work says: check's line for the fault, but for words that ask for nothing.
use Rattle.std.specs.Prelude.{ℕ, List, codes}
use Rattle.pcm_top.specs.{declared.fault.Fault.Fault, declared.fault.Fault.TheVariants.{Usage, Trace, Results, Image, Read, Write, TooLong, NoMemory}}
use Rattle.pcm_top.specs.FaultLines as check

-- the options that there are
abbrev pub usage_text : List ℕ
usage_text = codes "usage: pcm explain [options]\n"

-- the line that is written for a fault
unfoldable pub fault_line : Fault → List ℕ
fault_line Usage = usage_text
fault_line (Trace f) = check.fault_line (Trace f)
fault_line (Results row) = check.fault_line (Results row)
fault_line (Image f) = check.fault_line (Image f)
fault_line Read = check.fault_line Read
fault_line Write = check.fault_line Write
fault_line TooLong = check.fault_line TooLong
fault_line NoMemory = check.fault_line NoMemory
