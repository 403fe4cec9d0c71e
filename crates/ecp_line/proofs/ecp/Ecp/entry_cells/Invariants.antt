use Rattle.std.proofs.Common.{◌≡◌, ℕ, ◌+◌, ◌&&◌, leb, ltb}
use Rattle.cell_rows.specs.Rows.{cell}
use Rattle.ecp_line.proofs.ecp.Ecp.entry_cells.Given as goal

-- the cells so far are in the mask
abbrev pub invariant-loop-digit : goal.invariant-loop-digit
invariant-loop-digit g l = (n : ℕ) → cell l.mask n ≡ (leb l.first n && ltb n (l.first + l.digit))
