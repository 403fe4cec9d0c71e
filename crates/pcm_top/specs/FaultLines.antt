-- What a call that didn't do its work says: its status, and a line for the user.
use Rattle.std.specs.Prelude.{ℕ, List, ◌++◌, codes, decimal}
use Rattle.pcm_image.specs.declared.ImageKind.{ImageKind}
use Rattle.pcm_image.specs.declared.ImageKind.TheVariants as image
use Rattle.program_calls.specs.FaultLines.{trace_line}
use Rattle.pcm_top.specs.{declared.fault.Fault.Fault, declared.fault.Fault.TheVariants.{Usage, Trace, Image, Read, Write, TooLong, NoMemory, Results}}

-- the word for how a field of an image fails
abbrev pub image_word : ImageKind → List ℕ
image_word image.Short = codes "short"
image_word image.Magic = codes "magic"
image_word image.Size = codes "size"
image_word image.Shape = codes "shape"
image_word image.Bank = codes "bank"
image_word image.Entry = codes "entry"
image_word image.Extra = codes "extra"
image_word image.Line = codes "line"

-- the commands that there are
abbrev pub usage_text : List ℕ
usage_text = codes "usage: pcm run|gen|map|moves|show|check [options]\n"

-- the line that is written for a fault
unfoldable pub fault_line : Fault → List ℕ
fault_line Usage = usage_text
fault_line (Trace f) = trace_line f
fault_line (Results row) = codes "results row " ++ (decimal row ++ codes "\n")
fault_line (Image f) =
    codes "image byte " ++ (decimal f.at ++ (codes ": " ++ (image_word f.kind ++ codes "\n")))
fault_line Read = codes "read fault\n"
fault_line Write = codes "write fault\n"
fault_line TooLong = codes "trace too long\n"
fault_line NoMemory = codes "out of memory\n"

-- the status of the program for a fault
abbrev pub status_of : Fault → ℕ
status_of Usage = 2
status_of (Trace f) = 3
status_of (Image f) = 3
status_of (Results row) = 3
status_of Read = 4
status_of Write = 5
status_of TooLong = 6
status_of NoMemory = 7
