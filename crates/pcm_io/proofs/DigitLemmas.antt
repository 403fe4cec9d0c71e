-- How many decimal digits numbers have.
use Rattle.std.proofs.Common.{ℕ, ◌^◌, ◌<◌, ◌≤◌, length, arith, lit<}
use Rattle.std.{specs.Fmt.decimal, proofs.lemmas.Fmt.length-decimal-le}

pub five_digits : (n : ℕ) → n < 10 ^ 5 → length (decimal n) ≤ 5
five_digits n bound = length-decimal-le 5 n (lit< tt) bound (omega arith)

pub six_digits : (n : ℕ) → n < 10 ^ 6 → length (decimal n) ≤ 6
six_digits n bound = length-decimal-le 6 n (lit< tt) bound (omega arith)

-- any u32
pub ten_digits : (n : ℕ) → n < 2 ^ 32 → length (decimal n) ≤ 10
ten_digits n bound = length-decimal-le 10 n (lit< tt) (omega arith) (omega arith)

-- any u64
pub twenty_digits : (n : ℕ) → n < 2 ^ 64 → length (decimal n) ≤ 20
twenty_digits n bound = length-decimal-le 20 n (lit< tt) (omega arith) bound
