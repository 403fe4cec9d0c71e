use Rattle.std.proofs.Common.{◌≤◌}
use Rattle.rotation_reports.specs.MapText.{lines_of, map_header, map_row}
use Rattle.pcm_top.proofs.Reporting.{HasReported}
use Rattle.pcm_top.proofs.report.print_map.Given as goal

-- the rows so far are printed
abbrev pub invariant-loop-line : goal.invariant-loop-line
invariant-loop-line g l =
    HasReported map_header (map_row l.fn.options) 0 l.line l.text (g.K.Sink.written l.fn.out) (g.K.Sink.written l.out)
    × (g.K.Sink.faults l.fn.out ≤ g.K.Sink.faults l.out) × (l.line ≤ lines_of l.fn.options)
