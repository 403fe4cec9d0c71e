use Rattle.std.proofs.Common.{◌≤◌}
use Rattle.lines_report.specs.LinesText.{lines_text}
use Rattle.module_prints.{specs.WearReports.cells_at, proofs.Wearing.IsReported}
use Rattle.module_prints.proofs.lines.print_lines.Given as goal

-- the rows of the array lines so far are printed
abbrev pub invariant-loop-line : goal.invariant-loop-line
invariant-loop-line g l =
    IsReported (lines_text (cells_at g.row.E (g.A.CellArray.state l.array) (g.A.TellsCells.changes l.array))) l.pcm (g.A.CellArray.state l.array) l.line l.text (g.K.Sink.written l.fn.out) (g.K.Sink.written l.out)
    × (g.K.Sink.faults l.fn.out ≤ g.K.Sink.faults l.out)
