use Rattle.std.proofs.Common.{◌≡◌, ◌+◌, ◌-◌, ◌<◌, ◌≤◌, ◌⊎◌, ◌&&◌, ltb}
use Rattle.cell_rows.specs.Rows.{cell}
use Rattle.ecp_line.specs.Layout.{active, WantsZeros}
use Rattle.ecp_line.proofs.ecp.Ecp.later.Given as goal

-- the activity cells so far are wanted at 0
abbrev pub invariant-loop-number : goal.invariant-loop-number
invariant-loop-number g l =
    let entries = active g.row.B g.row.E (cell l.cells) in
    record {
      zeros : WantsZeros (cell l.cells) (λ n. ltb (l.first + entries) n && ltb n (l.first + l.number)) (cell l.want) (cell l.mask);
      behind : entries < l.number;
      reason : (l.number ≤ g.row.E - 1) ⊎ (l.number ≡ entries + 1);
    }
