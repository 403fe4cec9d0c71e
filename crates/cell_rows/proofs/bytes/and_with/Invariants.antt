use Rattle.std.proofs.Common.{◌*◌, bit_and}
use Rattle.cell_rows.proofs.LaneLemmas.{Joins}
use Rattle.cell_rows.proofs.bytes.and_with.Given as goal

-- the bytes of the steps so far are done, and the others are as they were
abbrev pub invariant-loop-step : goal.invariant-loop-step
invariant-loop-step l = Joins bit_and l.fn.bytes l.other l.bytes (16 * l.step)

abbrev pub invariant-loop-i : goal.invariant-loop-i
invariant-loop-i l = Joins bit_and l.fn.bytes l.other l.bytes l.i
