-- Events, and what a row finds, fit in memory.
use Rattle.std.proofs.Common.{ℕ, ◌+◌, ◌*◌, ◌<◌, ◌≤◌, arith}
use Prim.Native.Nat.{max}
use prog.Memory.{up}

line_le : (b : ℕ) → b ≤ 128 → 8 + (b * 1) ≤ 136
line_le b h = omega arith

masked_le : (a b : ℕ) → a ≤ 136 → b ≤ 128 → up 1 a + (b * 1) ≤ 265
masked_le a b h k = omega arith

asked_below : (l m : ℕ) → l ≤ 136 → m ≤ 265 → up 8 (8 + up 4 (max 8 (max l (max m 1)))) < 9223372036854775808
asked_below l m h k = omega arith

pub event_fits : (b : ℕ) → b ≤ 128
    → up 8 (8 + up 4 (max 8 (max (8 + (b * 1)) (max (up 1 (8 + (b * 1)) + (b * 1)) 1)))) < 9223372036854775808
event_fits b h = asked_below _ _ (line_le b h) (masked_le _ b (line_le b h) h)

newest_le : (b : ℕ) → b ≤ 128 → up 4 (up 4 (0 + b * 1) + b * 4) ≤ 650
newest_le b h = omega arith

first_le : (x : ℕ) → x ≤ 650 → up 1 (0 + x) ≤ 650
first_le x h = omega arith

given_le : (a b : ℕ) → a ≤ 650 → b ≤ 128 → up 1 (a + b * 1) ≤ 778
given_le a b h k = omega arith

step_8 : (a c m : ℕ) → a ≤ m → up 8 (a + c) ≤ m + c + 7
step_8 a c m h = omega arith

step_1 : (a c m : ℕ) → a ≤ m → up 1 (a + c) ≤ m + c
step_1 a c m h = omega arith

found_below : (a : ℕ) → a ≤ 988 → up 8 (max (8 + a) 208) < 9223372036854775808
found_below a h = omega arith

pub finds_fit : (b : ℕ) → b ≤ 128
    → up 8 (max (8 + up 8 (up 8 (up 8 (up 8 (up 8 (up 8 (up 1 (up 8 (up 8 (up 1 (up 8 (up 1 (up 1 (0 + up 4 (up 4 (0 + b * 1) + b * 4)) + b * 1) + 1) + 24) + 1) + 24) + 24) + 1) + 8) + 8) + 8) + 24) + 24)) 208) < 9223372036854775808
finds_fit b h =
    found_below _ (step_8 _ 24 957 (step_8 _ 24 926 (step_8 _ 8 911 (step_8 _ 8 896 (step_8 _ 8 881 (step_8 _ 1 873 (step_1 _ 24 849 (step_8 _ 24 818 (step_8 _ 1 810 (step_1 _ 24 786 (step_8 _ 1 778 (given_le _ b (first_le _ (newest_le b h)) h))))))))))))

pub results_fit : 24 < 9223372036854775808
results_fit = omega arith

pub crowds_fit : 80 < 9223372036854775808
crowds_fit = omega arith
