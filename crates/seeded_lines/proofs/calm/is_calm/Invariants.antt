use Rattle.std.proofs.Common.{◌≡◌, ℕ, ◌<◌, true, false, slice_index_or}
use Rattle.seeded_lines.proofs.calm.is_calm.Given as goal

-- where `all` is still true, each block before this one is calm
abbrev pub invariant-loop-block : goal.invariant-loop-block
invariant-loop-block g l = l.all ≡ true → (k : ℕ) → k < l.block → slice_index_or l.calm k false ≡ true
