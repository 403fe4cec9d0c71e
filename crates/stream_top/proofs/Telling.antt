-- The line of a fault, as it is written.
use Rattle.std.proofs.Common.{◌≡◌, refl}
use Rattle.std.specs.Prelude.{codes}
use Rattle.trace_reader.specs.declared.fault.TraceFault.{TraceFault}
use Rattle.program_calls.specs.FaultLines.{trace_line}
use Rattle.stream_top.specs.{FaultLines.fault_line, declared.fault.StreamRunFault.StreamRunFault, declared.fault.StreamRunFault.TheVariants.{Usage, Trace, Read, Write, TooLong, NoMemory}}

pub usage_line : (f : StreamRunFault) → f ≡ Usage → codes "usage: pcm stream [options]\n" ≡ fault_line f
unfolding fault_line
usage_line f e = rw e refl

pub line_of_trace : (f : StreamRunFault) (one : TraceFault) → f ≡ Trace one → trace_line one ≡ fault_line f
unfolding fault_line
line_of_trace f one e = rw e refl

pub read_line : (f : StreamRunFault) → f ≡ Read → codes "read fault\n" ≡ fault_line f
unfolding fault_line
read_line f e = rw e refl

pub write_line : (f : StreamRunFault) → f ≡ Write → codes "write fault\n" ≡ fault_line f
unfolding fault_line
write_line f e = rw e refl

pub too_long_line : (f : StreamRunFault) → f ≡ TooLong → codes "trace too long\n" ≡ fault_line f
unfolding fault_line
too_long_line f e = rw e refl

pub memory_line : (f : StreamRunFault) → f ≡ NoMemory → codes "out of memory\n" ≡ fault_line f
unfolding fault_line
memory_line f e = rw e refl
