use Rattle.std.proofs.Common.{◌≤◌}
use Rattle.program_calls.proofs.Written.{HasWritten}
use Rattle.program_calls.proofs.telling.write_parts.Given as goal

-- the texts so far were written
abbrev pub invariant-loop-part : goal.invariant-loop-part
invariant-loop-part g l = HasWritten l.parts l.part-index (g.F.Sink.written l.fn.err) (g.F.Sink.written l.err) × (g.F.Sink.faults l.fn.err ≤ g.F.Sink.faults l.err)
