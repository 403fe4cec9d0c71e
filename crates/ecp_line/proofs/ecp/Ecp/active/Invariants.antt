use Rattle.std.proofs.Common.{◌≡◌, ◌+◌, ◌<◌, true, ℕ}
use Rattle.cell_rows.specs.Rows.{cell}
use Rattle.ecp_line.proofs.ecp.Ecp.active.Given as goal

-- the activity cells so far are 1
abbrev pub invariant-loop-entry : goal.invariant-loop-entry
invariant-loop-entry g l = (i : ℕ) → i < l.entry → cell l.cells (l.first + i) ≡ true
