use Rattle.std.proofs.Common.{◌≡◌}
use Rattle.cell_rows.specs.Told.{most}
use Rattle.wear_totals.proofs.walk.most.Given as goal

-- the lines so far are seen
abbrev pub invariant-loop-line : goal.invariant-loop-line
invariant-loop-line g l = l.most ≡ most (λ line. ((g.A.CellArray.state l.array).line line).pulses) l.line
