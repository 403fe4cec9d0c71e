-- A bank and what it is made of fit in memory.
use Rattle.std.proofs.Common.{ℕ, ◌+◌, ◌*◌, ◌<◌, ◌≤◌, arith}
use Prim.Native.Nat.{max}
use prog.Memory.{up}
use Rattle.ecp_line.specs.Layout.{IsLayout}

up1_le : (e bound : ℕ) → e ≤ bound → up 1 e ≤ bound + 1
up1_le e bound h = omega arith

base_le : (a bound : ℕ) → a ≤ bound → 0 + (a * 1) ≤ bound
base_le a bound h = omega arith

add_le : (a b : ℕ) → a ≤ 129 → b ≤ 16 → a + (b * 1) ≤ 145
add_le a b h k = omega arith

cells_le : (b m : ℕ) → b ≤ 128 → m ≤ 16 → up 1 (up 1 (0 + (b * 1)) + (m * 1)) ≤ 146
cells_le b m h k = up1_le _ 145 (add_le _ m (up1_le _ 128 (base_le b 128 h)) k)

prog_le : (c : ℕ) → c ≤ 146 → up 1 (up 1 (up 1 (up 1 (0 + c) + c) + c) + 1) ≤ 500
prog_le c h = omega arith

writer_le : (p b : ℕ) → p ≤ 500 → b ≤ 128 → up 2 (up 2 (up 1 (up 1 (up 1 (0 + p) + (b * 1)) + 1) + 1) + 6) ≤ 700
writer_le p b h k = omega arith

running_le : (w : ℕ) → w ≤ 700 → up 4 (24 + w) ≤ 760
running_le w h = omega arith

state_le : (r : ℕ) → r ≤ 760 → up 8 (up 8 (up 8 (up 8 (184 + up 4 (max 1 (max (4 + r) 1))) + 32) + 32) + 8) ≤ 4000
state_le r h = omega arith

below : (a : ℕ) → a ≤ 4000 → a < 9223372036854775808
below a h = omega arith

less : (a b : ℕ) → a ≤ b → b ≤ 4000 → a ≤ 4000
less a b h k = omega arith

-- by the layout of a line
module _ {b m e : ℕ} (layout : IsLayout b m e) where
  cells_size : up 1 (up 1 (0 + (b * 1)) + (m * 1)) ≤ 146
  cells_size = cells_le b m layout.shape.1 layout.shape.3

  -- the size of what writes a line
  pub writer_size : up 2 (up 2 (up 1 (up 1 (up 1
      (0 + up 1 (up 1 (up 1 (up 1 (0 + up 1 (up 1 (0 + (b * 1)) + (m * 1)))
      + up 1 (up 1 (0 + (b * 1)) + (m * 1))) + up 1 (up 1 (0 + (b * 1)) + (m * 1))) + 1))
      + (b * 1)) + 1) + 1) + 6) ≤ 700
  writer_size = writer_le _ b (prog_le _ cells_size) layout.shape.1

  -- the size of a bank
  pub bank_size : up 8 (up 8 (up 8 (up 8 (184 + up 4 (max 1 (max (4 + up 4 (24 + up 2 (up 2 (up 1 (up 1 (up 1
      (0 + up 1 (up 1 (up 1 (up 1 (0 + up 1 (up 1 (0 + (b * 1)) + (m * 1)))
      + up 1 (up 1 (0 + (b * 1)) + (m * 1))) + up 1 (up 1 (0 + (b * 1)) + (m * 1))) + 1))
      + (b * 1)) + 1) + 1) + 6))) 1))) + 32) + 32) + 8) ≤ 4000
  bank_size = state_le _ (running_le _ writer_size)

  pub bank_fits : up 8 (up 8 (up 8 (up 8 (184 + up 4 (max 1 (max (4 + up 4 (24 + up 2 (up 2 (up 1 (up 1 (up 1
      (0 + up 1 (up 1 (up 1 (up 1 (0 + up 1 (up 1 (0 + (b * 1)) + (m * 1)))
      + up 1 (up 1 (0 + (b * 1)) + (m * 1))) + up 1 (up 1 (0 + (b * 1)) + (m * 1))) + 1))
      + (b * 1)) + 1) + 1) + 6))) 1))) + 32) + 32) + 8) < 9223372036854775808
  bank_fits = below _ bank_size

  pub running_fits : up 4 (24 + up 2 (up 2 (up 1 (up 1 (up 1
      (0 + up 1 (up 1 (up 1 (up 1 (0 + up 1 (up 1 (0 + (b * 1)) + (m * 1)))
      + up 1 (up 1 (0 + (b * 1)) + (m * 1))) + up 1 (up 1 (0 + (b * 1)) + (m * 1))) + 1))
      + (b * 1)) + 1) + 1) + 6)) < 9223372036854775808
  running_fits = below _ (less _ 760 (running_le _ writer_size) (omega arith))

  pub writer_fits : up 2 (up 2 (up 1 (up 1 (up 1
      (0 + up 1 (up 1 (up 1 (up 1 (0 + up 1 (up 1 (0 + (b * 1)) + (m * 1)))
      + up 1 (up 1 (0 + (b * 1)) + (m * 1))) + up 1 (up 1 (0 + (b * 1)) + (m * 1))) + 1))
      + (b * 1)) + 1) + 1) + 6) < 9223372036854775808
  writer_fits = below _ (less _ 700 writer_size (omega arith))

  pub cells_fits : up 1 (up 1 (0 + (b * 1)) + (m * 1)) < 9223372036854775808
  cells_fits = below _ (less _ 146 cells_size (omega arith))

  pub bytes_fits : b * 1 < 9223372036854775808
  bytes_fits = omega (arith, layout.shape.1)

-- what a bank keeps fits
pub kept_fits : 184 < 9223372036854775808
kept_fits = omega arith
