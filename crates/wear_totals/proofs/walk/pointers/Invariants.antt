use Rattle.std.proofs.Common.{◌≡◌, ◌*◌, ◌≤◌}
use Rattle.wear_totals.specs.Wear.{pointers_of_first}
use Rattle.wear_totals.proofs.walk.pointers.Given as goal

-- the lines so far are summed
abbrev pub invariant-loop-line : goal.invariant-loop-line
invariant-loop-line g l = (l.sum ≡ pointers_of_first g.row.E (g.A.CellArray.state l.array) l.line) × (l.sum ≤ 255 * l.line)
