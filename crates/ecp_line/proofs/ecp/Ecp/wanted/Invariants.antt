use Rattle.cell_rows.specs.Rows.{cell}
use Rattle.ecp_line.specs.Layout.{IsWanted}
use Rattle.ecp_line.proofs.ecp.Ecp.wanted.Given as goal

-- the sources by the entries so far are wanted
abbrev pub invariant-loop-entry : goal.invariant-loop-entry
invariant-loop-entry g l = IsWanted g.row.B l.entry (cell l.cells) l.bytes (cell l.want) (cell l.mask)
