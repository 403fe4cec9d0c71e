use Rattle.run_text.proofs.Rows.{HasRows}
use Rattle.run_text.proofs.results.print_events.Given as goal

-- the rows so far are printed
abbrev pub invariant-loop-i : goal.invariant-loop-i
invariant-loop-i g l = HasRows l.events l.results g.K.Sink.written g.K.Sink.faults l.i l.fn.printer l.printer
