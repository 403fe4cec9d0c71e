use Rattle.std.proofs.Common.{◌≤◌, length}
use Rattle.trace_gen.specs.Generated.{generated}
use Rattle.pcm_top.proofs.Drawing.{HasDrawn}
use Rattle.pcm_top.proofs.drawn.print_drawn.Given as goal

-- the rows so far are printed
abbrev pub invariant-loop-event : goal.invariant-loop-event
invariant-loop-event g l =
    HasDrawn (generated g.row.B l.seed l.lines l.fn.mix) l.generator l.text (g.K.Sink.written l.fn.out) (g.K.Sink.written l.out)
    × (g.K.Sink.faults l.fn.out ≤ g.K.Sink.faults l.out)

abbrev pub decreases-loop-event : goal.decreases-loop-event
decreases-loop-event g l = length l.generator
