use Rattle.std.proofs.Common.{◌≤◌}
use Rattle.run_text.specs.WearText.{wear_text}
use Rattle.module_prints.proofs.Wearing.{IsReported}
use Rattle.module_prints.proofs.wear.print_wear.Given as goal

-- the rows of the array lines so far are printed
abbrev pub invariant-loop-line : goal.invariant-loop-line
invariant-loop-line g l =
    IsReported wear_text l.pcm (g.A.CellArray.state l.array) l.line l.text (g.K.Sink.written l.fn.out) (g.K.Sink.written l.out)
    × (g.K.Sink.faults l.fn.out ≤ g.K.Sink.faults l.out)
