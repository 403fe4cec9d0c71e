use Rattle.std.proofs.Common.{◌*◌}
use Rattle.cell_rows.proofs.LaneLemmas.{Gathers, Bounds}
use Rattle.cell_rows.proofs.bytes.is_zero.Given as goal

-- what the lanes and the byte have gathered so far
abbrev pub invariant-loop-step : goal.invariant-loop-step
invariant-loop-step l = Gathers l.bytes l.lanes (16 * l.step)

abbrev pub invariant-loop-i : goal.invariant-loop-i
invariant-loop-i l = Bounds l.bytes l.all l.i
