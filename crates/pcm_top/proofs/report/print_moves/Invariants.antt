use Rattle.std.proofs.Common.{◌≤◌}
use Rattle.start_gap.specs.Rotation.{turn}
use Rattle.rotation_reports.specs.MovesText.{move_row, moves_header}
use Rattle.pcm_top.proofs.Reporting.{HasReported}
use Rattle.pcm_top.proofs.report.print_moves.Given as goal

-- the rows so far are printed
abbrev pub invariant-loop-row : goal.invariant-loop-row
invariant-loop-row g l =
    HasReported moves_header (move_row l.lines) l.first l.row l.text (g.K.Sink.written l.fn.out) (g.K.Sink.written l.out)
    × (g.K.Sink.faults l.fn.out ≤ g.K.Sink.faults l.out) × (l.row ≤ turn l.lines)
