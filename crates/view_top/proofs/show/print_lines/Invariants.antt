use Rattle.std.proofs.Common.{◌≤◌}
use Rattle.pcm_image.specs.{Saved.total_in, Standing.stands_for}
use Rattle.pcm_top.{specs.Showing.shown_header, proofs.Reporting.HasReported}
use Rattle.view_top.specs.Showing.{touched_row}
use Rattle.view_top.proofs.show.print_lines.Given as goal

-- the rows so far are printed
abbrev pub invariant-loop-line : goal.invariant-loop-line
invariant-loop-line g l =
    HasReported shown_header (touched_row (stands_for g.row.E l.image)) 0 l.line l.text (g.K.Sink.written l.fn.out) (g.K.Sink.written l.out)
    × (g.K.Sink.faults l.fn.out ≤ g.K.Sink.faults l.out) × (l.line ≤ total_in l.image.head)
