-- What a fault of a call that the program makes becomes: a fault of the program.
use Rattle.command_line.specs.declared.job.Refusal.{Refusal}
use Rattle.command_line.specs.declared.job.Refusal.TheVariants as words
use Rattle.pcm_io.specs.declared.fault.ReadAllFault.{ReadAllFault}
use Rattle.pcm_io.specs.declared.fault.ReadAllFault.TheVariants as reading
use Rattle.trace_reader.specs.declared.fault.ParseFault.{ParseFault}
use Rattle.trace_reader.specs.declared.fault.ParseFault.TheVariants as parsing
use Rattle.pcm_image.specs.declared.fields.ReadImage.{ReadImage}
use Rattle.pcm_image.specs.declared.fields.ReadImage.TheVariants as image
use Rattle.check_text.specs.declared.fault.TextFault.{TextFault}
use Rattle.check_text.specs.declared.fault.TextFault.TheVariants as text
use Rattle.pcm_top.specs.{declared.fault.Fault.Fault, declared.fault.Fault.TheVariants.{Usage, Trace, Image, Read, TooLong, NoMemory, Results}}

-- words that ask for no job
abbrev pub no_job : Refusal → Fault
no_job words.Usage = Usage
no_job words.NoMemory = NoMemory

-- a source that wasn't read to its end
abbrev pub no_bytes : ReadAllFault → Fault
no_bytes reading.Read = Read
no_bytes reading.TooLong = TooLong
no_bytes reading.NoMemory = NoMemory

-- bytes that are no trace
abbrev pub no_trace : ParseFault → Fault
no_trace (parsing.Trace fault) = Trace fault
no_trace parsing.TooMany = TooLong
no_trace parsing.NoMemory = NoMemory

-- bytes that are no trace with its results
abbrev pub no_text : TextFault → Fault
no_text (text.Trace fault) = Trace fault
no_text text.TooMany = TooLong
no_text (text.Results row) = Results row
no_text text.NoMemory = NoMemory

-- bytes that are no image
abbrev pub no_image : ReadImage → Fault
no_image (image.Bad fault) = Image fault
no_image image.NoMemory = NoMemory
