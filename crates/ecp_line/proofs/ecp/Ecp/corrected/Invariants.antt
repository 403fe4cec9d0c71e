use Rattle.std.proofs.Common.{◌≡◌, ℕ, ◌*◌, ◌<◌}
use Rattle.cell_rows.specs.Rows.{cell}
use Rattle.ecp_line.specs.Layout.{source_below}
use Rattle.ecp_line.proofs.ecp.Ecp.corrected.Given as goal

-- each bit is as the entries so far read it
abbrev pub invariant-loop-entry : goal.invariant-loop-entry
invariant-loop-entry g l = (x : ℕ) → x < 8 * g.row.B → cell l.row x ≡ cell l.cells (source_below g.row.B (cell l.cells) x l.entry)
