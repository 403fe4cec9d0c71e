use Rattle.std.proofs.Common.{◌≡◌, ℕ, ◌<◌, ◌≤◌, false, slice_index}
use Rattle.seeded_lines.specs.Planes.{bit_in}
use Rattle.seeded_lines.proofs.blocks.are_many.Given as goal

-- where `few` is still false, so it is of the counts before this index
abbrev pub invariant-loop-index : goal.invariant-loop-index
invariant-loop-index l = l.few ≡ false → (i : ℕ) → i < l.index → bit_in l.mask i ≡ false → 8 ≤ slice_index l.left i
