use Rattle.std.proofs.Common.{◌≡◌}
use Rattle.cell_rows.specs.Rows.{cell}
use Rattle.ecp_line.specs.Layout.{source_below}
use Rattle.ecp_line.proofs.ecp.Ecp.source_below.Given as goal

-- the source by the entries so far
abbrev pub invariant-loop-entry : goal.invariant-loop-entry
invariant-loop-entry g l = l.source ≡ source_below g.row.B (cell l.cells) l.bit l.entry
