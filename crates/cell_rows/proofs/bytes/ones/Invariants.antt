use Rattle.std.proofs.Common.{◌≡◌, ◌*◌}
use Rattle.cell_rows.specs.Rows.{bit_of, members}
use Rattle.cell_rows.proofs.bytes.ones.Given as goal

-- the bits of the blocks so far are counted
abbrev pub invariant-loop-block : goal.invariant-loop-block
invariant-loop-block l = l.total ≡ members (bit_of l.bytes) (64 * l.block)

-- and those of the bytes so far
abbrev pub invariant-loop-i : goal.invariant-loop-i
invariant-loop-i l = l.total ≡ members (bit_of l.bytes) (8 * l.i)
