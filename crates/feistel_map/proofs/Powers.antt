-- The logarithm of a power of two, what lies between two powers, and how many bits the numbers of lines have.
use Rattle.std.proofs.Common.{◌≡◌, ℕ, zero, suc, false, true, ◌+◌, ◌*◌, ◌/◌, ◌^◌, ◌<◌, ◌≤◌, nat_lt, inl, inr, lit<, refl, ◌∙◌, ap, arith}
use Rattle.std.proofs.{Math.Nat.{pow-suc, pow-le-pow_right}, lemmas.Bool.cases_lt, lemmas.Bool.Decides.nat_tests, lemmas.Nat.pow_pos}
use Rattle.feistel_map.specs.Log2.{halvings, log2}

halvings-between : (r most n : ℕ) → n ≤ most → 2 ^ r ≤ n → n < 2 * 2 ^ r → halvings most n ≡ r
halvings-between r zero n few low high = absurd (omega (arith, pow_pos r))
halvings-between zero (suc most) n few low high =
    let test : nat_lt n 2 ≡ true = grind (arith, nat_tests) in
    rw test refl
halvings-between (suc r) (suc most) n few low high =
    let double : 2 ^ suc r ≡ 2 ^ r * 2 = pow-suc 2 r in
    let two : 2 ≤ n = omega (arith, double, pow_pos r) in
    let test : nat_lt n 2 ≡ false = grind (arith, nat_tests) in
    let half_few : n / 2 ≤ most = omega arith in
    let half_low : 2 ^ r ≤ n / 2 = omega (arith, double) in
    let half_high : n / 2 < 2 * 2 ^ r = omega (arith, double) in
    rw test (ap (λ k. k + 1) (halvings-between r most (n / 2) half_few half_low half_high) ∙ omega arith)

-- the logarithm lies between two powers
pub log2-between : (r n : ℕ) → 2 ^ r ≤ n → n < 2 * 2 ^ r → log2 n ≡ r
log2-between r n low high = halvings-between r n n (omega arith) low high

pub log2-pow : (b : ℕ) → log2 (2 ^ b) ≡ b
log2-pow b = log2-between b (2 ^ b) (omega arith) (omega (arith, pow_pos b))

-- how many bits the numbers of four lines or more have, those of fewer lines than a power of two, and of 2^16 or 2^26 lines
pub bits_some : (r n : ℕ) → 4 ≤ n → n < 2 * 2 ^ r → 2 ≤ r
bits_some zero n some high = absurd (omega arith)
bits_some (suc zero) n some high = absurd (omega arith)
bits_some (suc (suc r)) n some high = omega arith

pub bits_below : (most r n : ℕ) → n < 2 ^ (most + 1) → 2 ^ r ≤ n → r ≤ most
bits_below most r n few low =
    elim (cases_lt most r) [
      | inl more ↦ absurd (omega (arith, few, low, pow-le-pow_right {n = 2} (lit< tt) {i = most + 1} {j = r} (omega (arith, more))))
      | inr less ↦ less
    ]

pub bits_few : (r n : ℕ) → n ≤ 65536 → 2 ^ r ≤ n → r ≤ 16
bits_few r n few low = bits_below 16 r n (omega arith) low

pub bits_large : (r n : ℕ) → n ≤ 67108864 → 2 ^ r ≤ n → r ≤ 26
bits_large r n few low = bits_below 26 r n (omega arith) low
