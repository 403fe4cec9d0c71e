use Rattle.std.proofs.Common.{◌≡◌, ◌<◌, ℕ, get_or}
use Rattle.ecp_line.proofs.mask.lowest_bit.Given as goal

-- the bytes so far are 0
abbrev pub invariant-loop-index : goal.invariant-loop-index
invariant-loop-index l = (k : ℕ) → k < l.index → get_or l.bytes k 0 ≡ 0
