-- What is kept of a line fits in memory.
use Rattle.std.proofs.Common.{ℕ, ◌+◌, ◌*◌, ◌<◌, ◌≤◌, arith}
use prog.Memory.{up}

pub line_fits : (b : ℕ) → b ≤ 128 → up 8 (up 8 (up 1 (0 + (b * 1)) + (b * 1)) + 24) < 9223372036854775808
line_fits b h = omega arith

pub bytes_fit : (b : ℕ) → b ≤ 128 → b * 1 < 9223372036854775808
bytes_fit b h = omega arith
