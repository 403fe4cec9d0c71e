-- Why a text has no verdict, by a fault of one of its parts.
use Rattle.trace_reader.specs.declared.fault.ParseFault.{ParseFault}
use Rattle.trace_reader.specs.declared.fault.ParseFault.TheVariants as parsing
use Rattle.check_reader.specs.declared.fault.ResultFault.{ResultFault}
use Rattle.check_reader.specs.declared.fault.ResultFault.TheVariants as reading
use Rattle.check_text.specs.{declared.fault.TextFault.TextFault, declared.fault.TextFault.TheVariants.{Trace, TooMany, Results, NoMemory}}

-- a text whose trace is none has this fault
abbrev pub no_trace : ParseFault → TextFault
no_trace (parsing.Trace f) = Trace f
no_trace parsing.TooMany = TooMany
no_trace parsing.NoMemory = NoMemory

-- a text whose results are none has this fault
abbrev pub no_results : ResultFault → TextFault
no_results (reading.Row row) = Results row
no_results reading.NoMemory = NoMemory
