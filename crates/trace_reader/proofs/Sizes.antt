-- An event fits in memory.
use Rattle.std.proofs.Common.{ℕ, ◌+◌, ◌*◌, ◌<◌, ◌≤◌, arith}
use Prim.Native.Nat.{max}
use prog.Memory.{up}

masked_le : (a b : ℕ) → a ≤ 136 → b ≤ 128 → up 1 a + (b * 1) ≤ 265
masked_le a b h k = omega arith

ops_le : (a c : ℕ) → a ≤ 136 → c ≤ 265 → up 4 (max 8 (max a (max c 1))) ≤ 269
ops_le a c h k = omega arith

below : (ops : ℕ) → ops ≤ 269 → up 8 (8 + ops) < 9223372036854775808
below ops h = omega arith

line_le : (b : ℕ) → b ≤ 128 → 8 + (b * 1) ≤ 136
line_le b h = omega arith

pub event_fits : (b : ℕ) → b ≤ 128 → up 8 (8 + up 4 (max 8 (max (8 + (b * 1)) (max (up 1 (8 + (b * 1)) + (b * 1)) 1)))) < 9223372036854775808
event_fits b h = below _ (ops_le _ _ (line_le b h) (masked_le _ b (line_le b h) h))

-- and so does its operation
ops_below : (ops : ℕ) → ops ≤ 269 → ops < 9223372036854775808
ops_below ops h = omega arith

pub op_fits : (b : ℕ) → b ≤ 128 → up 4 (max 8 (max (8 + (b * 1)) (max (up 1 (8 + (b * 1)) + (b * 1)) 1))) < 9223372036854775808
op_fits b h = ops_below _ (ops_le _ _ (line_le b h) (masked_le _ b (line_le b h) h))
