-- Rows, and what a read finds, fit in memory; for the crates above too.
use Rattle.std.proofs.Common.{◌≡◌, ℕ, ◌+◌, ◌*◌, ◌<◌, ◌≤◌, length, arith, rules}
use Rattle.std.specs.Prelude.{Vec, vec_len}
use Prim.Native.Nat.{max}
use prog.Memory.{up}

line_le : (b : ℕ) → b ≤ 128 → 8 + (b * 1) ≤ 136
line_le b h = omega arith

masked_le : (a b : ℕ) → a ≤ 136 → b ≤ 128 → up 1 a + (b * 1) ≤ 265
masked_le a b h k = omega arith

asks_le : (c : ℕ) → c ≤ 265 → up 4 (max 8 (max c 1)) ≤ 269
asks_le c h = omega arith

read_le : (b : ℕ) → b ≤ 128 → max (20 + (b * 1)) (max (16 + (b * 1)) 16) ≤ 148
read_le b h = omega arith

outcome_le : (k : ℕ) → k ≤ 148 → up 8 (max 1 (max 20 (max 16 (max 16 (max 16 (max 16 k)))))) ≤ 156
outcome_le k h = omega arith

below : (asks outcome : ℕ) → asks ≤ 269 → outcome ≤ 156 → up 8 (8 + up 8 (up 8 (8 + asks) + outcome)) < 9223372036854775808
below asks outcome h k = omega arith

pub numbered_fits : (b : ℕ) → b ≤ 128
    → up 8 (8 + up 8 (up 8 (8 + up 4 (max 8 (max (up 1 (8 + (b * 1)) + (b * 1)) 1))) + up 8 (max 1 (max 20 (max 16 (max 16 (max 16 (max 16 (max (20 + (b * 1)) (max (16 + (b * 1)) 16)))))))))) < 9223372036854775808
numbered_fits b h = below _ _ (asks_le _ (masked_le _ b (line_le b h) h)) (outcome_le _ (read_le b h))

row_below : (asks outcome : ℕ) → asks ≤ 269 → outcome ≤ 156 → up 8 (up 8 (8 + asks) + outcome) < 9223372036854775808
row_below asks outcome h k = omega arith

pub row_fits : (b : ℕ) → b ≤ 128
    → up 8 (up 8 (8 + up 4 (max 8 (max (up 1 (8 + (b * 1)) + (b * 1)) 1))) + up 8 (max 1 (max 20 (max 16 (max 16 (max 16 (max 16 (max (20 + (b * 1)) (max (16 + (b * 1)) 16))))))))) < 9223372036854775808
row_fits b h = row_below _ _ (asks_le _ (masked_le _ b (line_le b h) h)) (outcome_le _ (read_le b h))

pub newest_fits : (b : ℕ) → b ≤ 128 → up 4 (up 4 (0 + b * 1) + b * 4) < 9223372036854775808
newest_fits b h = omega arith

newest_le : (b : ℕ) → b ≤ 128 → up 4 (up 4 (0 + b * 1) + b * 4) ≤ 650
newest_le b h = omega arith

first_le : (x : ℕ) → x ≤ 650 → up 1 (0 + x) ≤ 650
first_le x h = omega arith

given_le : (a b : ℕ) → a ≤ 650 → b ≤ 128 → up 1 (a + b * 1) ≤ 778
given_le a b h k = omega arith

step_8 : (a c m : ℕ) → a ≤ m → up 8 (a + c) ≤ m + c + 7
step_8 a c m h = omega arith

step_1 : (a c m : ℕ) → a ≤ m → up 1 (a + c) ≤ m + c
step_1 a c m h = omega arith

last_below : (a : ℕ) → a ≤ 957 → up 8 (a + 24) < 9223372036854775808
last_below a h = omega arith

pub grounds_fits : (b : ℕ) → b ≤ 128
    → up 8 (up 8 (up 8 (up 8 (up 8 (up 8 (up 1 (up 8 (up 8 (up 1 (up 8 (up 1 (up 1 (0 + up 4 (up 4 (0 + b * 1) + b * 4)) + b * 1) + 1) + 24) + 1) + 24) + 24) + 1) + 8) + 8) + 8) + 24) + 24) < 9223372036854775808
grounds_fits b h =
    last_below _ (step_8 _ 24 926 (step_8 _ 8 911 (step_8 _ 8 896 (step_8 _ 8 881 (step_8 _ 1 873 (step_1 _ 24 849 (step_8 _ 24 818 (step_8 _ 1 810 (step_1 _ 24 786 (step_8 _ 1 778 (given_le _ b (first_le _ (newest_le b h)) h)))))))))))

-- how many items a vector has
pub vec_long : {X Z : Type 0} (v : Vec X Z) → vec_len v ≡ length v.items
vec_long v = search rules
