use Rattle.std.proofs.Common.{◌≡◌, ℕ, ◌*◌, ◌<◌, ◌≤◌, false}
use Rattle.cell_rows.specs.Rows.{cell}
use Rattle.wear_totals.proofs.line.has_check_cells.Given as goal

-- the groups so far are not in the mask
abbrev pub invariant-loop-group : goal.invariant-loop-group
invariant-loop-group g l = (n : ℕ) → 8 * g.row.B ≤ n → n < 8 * l.group → cell l.mask n ≡ false
