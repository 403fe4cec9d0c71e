-- A bank fits in memory.
use Rattle.std.proofs.Common.{ℕ, ◌+◌, ◌*◌, ◌<◌, ◌≤◌, arith}
use Prim.Native.Nat.{max}
use prog.Memory.{up}
use Rattle.ecp_line.specs.Layout.{IsLayout}
use Rattle.bank_core.proofs.Sizes.{bank_size, writer_size}
pub use Rattle.bank_core.proofs.Sizes.{bank_fits, bytes_fits, kept_fits}
pub use Rattle.result_rows.proofs.Sizes.{outcome_fits as outcome_small}

held_le : (w : ℕ) → w ≤ 700 → up 4 (30 + up 2 (max 1 (max (2 + w) 1))) ≤ 800
held_le w h = omega arith

-- the size of its control lines
pub regs_size : (b m e : ℕ) → IsLayout b m e
    → up 4 (30 + up 2 (max 1 (max (2 + up 2 (up 2 (up 1 (up 1 (up 1 (0 + up 1 (up 1 (up 1 (up 1 (0 + up 1 (up 1 (0 + (b * 1)) + (m * 1))) + up 1 (up 1 (0 + (b * 1)) + (m * 1))) + up 1 (up 1 (0 + (b * 1)) + (m * 1))) + 1)) + (b * 1)) + 1) + 1) + 6)) 1))) ≤ 800
regs_size b m e layout = held_le _ (writer_size layout)

small : (a : ℕ) → a ≤ 800 → a < 9223372036854775808
small a h = omega arith

pub regs_fits : (b m e : ℕ) → IsLayout b m e
    → up 4 (30 + up 2 (max 1 (max (2 + up 2 (up 2 (up 1 (up 1 (up 1 (0 + up 1 (up 1 (up 1 (up 1 (0 + up 1 (up 1 (0 + (b * 1)) + (m * 1))) + up 1 (up 1 (0 + (b * 1)) + (m * 1))) + up 1 (up 1 (0 + (b * 1)) + (m * 1))) + 1)) + (b * 1)) + 1) + 1) + 6)) 1))) < 9223372036854775808
regs_fits b m e layout = small _ (regs_size b m e layout)

clock_fits : (s r : ℕ) → s ≤ 4000 → r ≤ 800 → up 8 (up 1 (up 4 (up 8 (up 8 (up 8 (up 4 (up 4 (0 + s) + r) + 12) + 8) + 24) + 32) + 4) + 1) < 9223372036854775808
clock_fits s r h k = omega (arith, h, k)

pub timed_fits : (b m e : ℕ) → IsLayout b m e
    → up 8 (up 1 (up 4 (up 8 (up 8 (up 8 (up 4 (up 4 (0 + up 8 (up 8 (up 8 (up 8 (184 + up 4 (max 1 (max (4 + up 4 (24 + up 2 (up 2 (up 1 (up 1 (up 1 (0 + up 1 (up 1 (up 1 (up 1 (0 + up 1 (up 1 (0 + (b * 1)) + (m * 1))) + up 1 (up 1 (0 + (b * 1)) + (m * 1))) + up 1 (up 1 (0 + (b * 1)) + (m * 1))) + 1)) + (b * 1)) + 1) + 1) + 6))) 1))) + 32) + 32) + 8)) + up 4 (30 + up 2 (max 1 (max (2 + up 2 (up 2 (up 1 (up 1 (up 1 (0 + up 1 (up 1 (up 1 (up 1 (0 + up 1 (up 1 (0 + (b * 1)) + (m * 1))) + up 1 (up 1 (0 + (b * 1)) + (m * 1))) + up 1 (up 1 (0 + (b * 1)) + (m * 1))) + 1)) + (b * 1)) + 1) + 1) + 6)) 1)))) + 12) + 8) + 24) + 32) + 4) + 1) < 9223372036854775808
timed_fits b m e layout = clock_fits _ _ (bank_size layout) (regs_size b m e layout)

-- an outcome fits, by the layout of its line
pub outcome_fits : (b m e : ℕ) → IsLayout b m e
    → up 8 (max 1 (max 20 (max 16 (max 16 (max 16 (max 16 (max (20 + (b * 1)) (max (16 + (b * 1)) 16)))))))) < 9223372036854775808
outcome_fits b m e layout = outcome_small b layout.shape.1

pub served_fits : (b m e : ℕ) → IsLayout b m e → up 4 (8 + (b * 1)) < 9223372036854775808
served_fits b m e layout = omega (arith, layout.shape.1)

pub read_fits : (b m e : ℕ) → IsLayout b m e → up 1 (max (1 + (b * 1)) 1) < 9223372036854775808
read_fits b m e layout = omega (arith, layout.shape.1)

pub row_fits : 24 < 9223372036854775808
row_fits = omega arith

pub entry_fits : (b : ℕ) → b ≤ 128 → up 4 (up 1 (8 + (b * 1)) + (b * 1)) < 9223372036854775808
entry_fits b h = omega (arith, h)
