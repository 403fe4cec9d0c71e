-- An outcome with its row fits in memory.
use Rattle.std.proofs.Common.{ℕ, ◌+◌, ◌*◌, ◌<◌, ◌≤◌, arith}
use Prim.Native.Nat.{max}
use prog.Memory.{up}

read_le : (b : ℕ) → b ≤ 128 → max (20 + (b * 1)) (max (16 + (b * 1)) 16) ≤ 148
read_le b h = omega arith

kept_below : (k : ℕ) → k ≤ 148 → up 8 (8 + up 8 (max 1 (max 20 (max 16 (max 16 (max 16 (max 16 k))))))) < 9223372036854775808
kept_below k h = omega arith

pub kept_fits : (b : ℕ) → b ≤ 128 → up 8 (8 + up 8 (max 1 (max 20 (max 16 (max 16 (max 16 (max 16 (max (20 + (b * 1)) (max (16 + (b * 1)) 16))))))))) < 9223372036854775808
kept_fits b h = kept_below _ (read_le b h)
