use Rattle.std.proofs.Common.{◌≡◌, ◌≤◌}
use Rattle.module_prints.{specs.WearReports.cells_at, proofs.Pulsing.IsPulsed}
use Rattle.module_prints.proofs.pulsed.print_pulsed.Given as goal

-- the rows of the array lines so far are printed
abbrev pub invariant-loop-line : goal.invariant-loop-line
invariant-loop-line g l =
    IsPulsed l.report (cells_at g.row.E (g.A.CellArray.state l.array) (g.A.TellsCells.changes l.array)) l.pcm (g.A.CellArray.state l.array) l.line l.text (g.K.Sink.written l.fn.out) (g.K.Sink.written l.out)
    × (g.K.Sink.faults l.fn.out ≤ g.K.Sink.faults l.out)
    × (l.text.limit ≡ 65536)
