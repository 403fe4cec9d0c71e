-- Powers of two, by the test for them.
use Rattle.std.proofs.Common.{◌≡◌, ℕ, zero, suc, ◌+◌, ◌*◌, ◌/◌, ◌%◌, ◌^◌, ◌≤◌, inl, inr, true, sym, ap, ◌∙◌, arith, count_ones}
use Rattle.std.{specs.Int.{IsPowerOfTwo, is_power_of_two}, specs.Int.Count.ones_step, proofs.Math.Nat.pow-suc, proofs.lemmas.Bool.cases_eq, proofs.lemmas.Bool.Decides.nat_tests}
use Rattle.std.proofs.lemmas.Nat.{ones_le_self, zero_from_ones, pow-add}
use Rattle.feistel_map.{specs.Log2.log2, proofs.Powers.log2-pow}

-- a number with one digit that is set is a power of two
one_digit : (d n : ℕ) → n ≤ d → count_ones n ≡ 1 → IsPowerOfTwo n
one_digit zero n few one = absurd (omega (arith, one, ones_le_self n))
one_digit (suc d) n few one =
    let digits = ones_step n in
    elim (cases_eq (n % 2) 0) [
      | inl even ↦
          let half = one_digit d (n / 2) (omega arith) (omega (arith, digits, even, one)) in
          (suc half.0, omega (arith, half.1, pow-suc 2 half.0, even))
      | inr odd ↦
          let high : n / 2 ≡ 0 = zero_from_ones (n / 2) (omega (arith, digits, odd, one)) in
          (0, omega (arith, high, odd))
    ]

pub power_of_two : (n : ℕ) → is_power_of_two n ≡ true → IsPowerOfTwo n
power_of_two n is =
    let one : count_ones n ≡ 1 = grind (arith, nat_tests) in
    one_digit n n (omega arith) one

-- a product of three powers of two is one
product : (a b c i j k : ℕ) → a ≡ 2 ^ i → b ≡ 2 ^ j → c ≡ 2 ^ k → a * b * c ≡ 2 ^ (i + j + k)
product a b c i j k x y z = rw (x, y, z) (sym (pow-add 2 (i + j) k ∙ ap (λ n. n * 2 ^ k) (pow-add 2 i j)))

-- the logarithm of a power of two
log_of_power : (n k : ℕ) → n ≡ 2 ^ k → 2 ^ log2 n ≡ n
log_of_power n k is = rw is (ap (λ b. 2 ^ b) (log2-pow k))

pub size_of_powers : (a b c : ℕ) → is_power_of_two a ≡ true → is_power_of_two b ≡ true → is_power_of_two c ≡ true → 2 ^ log2 (a * b * c) ≡ a * b * c
size_of_powers a b c x y z =
    let p = power_of_two a x in
    let q = power_of_two b y in
    let r = power_of_two c z in
    log_of_power (a * b * c) (p.0 + q.0 + r.0) (product a b c p.0 q.0 r.0 p.1 q.1 r.1)
