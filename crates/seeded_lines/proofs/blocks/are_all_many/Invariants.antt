use Rattle.std.proofs.Common.{◌≡◌, ℕ, ◌<◌, ◌≤◌, false, slice_index}
use Rattle.seeded_lines.proofs.blocks.are_all_many.Given as goal

-- where `few` is still false, each count before this index is at least eight
abbrev pub invariant-loop-index : goal.invariant-loop-index
invariant-loop-index l = l.few ≡ false → (i : ℕ) → i < l.index → 8 ≤ slice_index l.left i
