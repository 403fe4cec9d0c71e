use Rattle.std.proofs.Common.{◌≡◌}
use Rattle.cell_rows.specs.Rows.{cell}
use Rattle.ecp_line.specs.Layout.{number}
use Rattle.ecp_line.proofs.ecp.Ecp.pointer_of.Given as goal

-- the digits so far
abbrev pub invariant-loop-digit : goal.invariant-loop-digit
invariant-loop-digit g l = l.bit ≡ number (cell l.cells) l.first l.digit
