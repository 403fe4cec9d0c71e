-- A factor of a power of two is one.
use Rattle.std.proofs.Common.{◌≡◌, ℕ, zero, suc, ◌+◌, ◌*◌, ◌/◌, ◌%◌, ◌^◌, ◌≤◌, ◌==◌, inl, inr, true, refl, sym, ap, ◌∙◌, arith, count_ones}
use Rattle.std.{specs.Int.is_power_of_two, specs.Int.Count.ones_step, proofs.Math.Nat.{pow-succ', mul_assoc, mul_comm, add-mul}, proofs.lemmas.Bool.cases_eq}
use Rattle.std.proofs.lemmas.Nat.{mul-le, ones_le_self}

-- the product of an even number
even-times : (a b : ℕ) → a % 2 ≡ 0 → a * b ≡ 2 * (a / 2 * b)
even-times a b even =
    let is : a ≡ 2 * (a / 2) = omega (arith, even) in
    ap (λ x. x * b) is ∙ mul_assoc 2 (a / 2) b

odd-times : (a b : ℕ) → a % 2 ≡ 1 → a * b ≡ 2 * (a / 2 * b) + b
odd-times a b odd =
    let is : a ≡ 2 * (a / 2) + 1 = omega (arith, odd) in
    let one : 1 * b ≡ b = omega arith in
    ap (λ x. x * b) is ∙ add-mul (2 * (a / 2)) 1 b ∙ ap (λ x. x + 1 * b) (mul_assoc 2 (a / 2) b) ∙ ap (λ x. 2 * (a / 2 * b) + x) one

one-factor : (a b : ℕ) → a * b ≡ 1 → a ≡ 1
one-factor zero b is = absurd (omega (arith, is))
one-factor (suc zero) b is = refl
one-factor (suc (suc a)) zero is = absurd (omega (arith, is, mul_comm (suc (suc a)) 0))
one-factor (suc (suc a)) (suc b) is =
    let some = mul-le 2 1 (suc (suc a)) (suc b) (omega arith) (omega arith) in
    absurd (omega (arith, is, some))

factor : (k a b : ℕ) → a * b ≡ 2 ^ k → (i : ℕ) × (a ≡ 2 ^ i)
factor zero a b is = (0, one-factor a b is)
factor (suc k) a b is =
    let twice = pow-succ' 2 k in
    elim (cases_eq (a % 2) 0) [
      | inl even ↦
          let low : a / 2 * b ≡ 2 ^ k = omega (arith, even-times a b even, is, twice) in
          let half = factor k (a / 2) b low in
          (suc half.0, omega (arith, even, half.1, pow-succ' 2 half.0))
      | inr odd ↦
          let by = odd-times a b (omega (arith, odd)) in
          let half : b ≡ 2 * (b / 2) = omega (arith, by, is, twice) in
          let low : a * (b / 2) ≡ 2 ^ k =
          (let swap : a * b ≡ 2 * (a * (b / 2)) = ap (λ x. a * x) half ∙ sym (mul_assoc a 2 (b / 2)) ∙ ap (λ x. x * (b / 2)) (mul_comm a 2) ∙ mul_assoc 2 a (b / 2) in
          omega (arith, swap, is, twice)) in
          factor k a (b / 2) low
    ]

ones-of-power : (k : ℕ) → count_ones (2 ^ k) ≡ 1
ones-of-power zero = let none : count_ones (1 / 2) ≤ 0 = ones_le_self 0 in omega (arith, ones_step 1, none)
ones-of-power (suc k) =
    let twice = pow-succ' 2 k in
    let half : 2 ^ suc k / 2 ≡ 2 ^ k = omega (arith, twice) in
    let even : 2 ^ suc k % 2 ≡ 0 = omega (arith, twice) in
    let low : count_ones (2 ^ suc k / 2) ≡ 1 = ap count_ones half ∙ ones-of-power k in
    omega (arith, ones_step (2 ^ suc k), low, even)

power-test : (a k : ℕ) → a ≡ 2 ^ k → is_power_of_two a ≡ true
power-test a k is = ap is_power_of_two is ∙ ap (λ n. n == 1) (ones-of-power k)

-- both factors, and three of them
pub factor-test : (k a b : ℕ) → a * b ≡ 2 ^ k → is_power_of_two a ≡ true
factor-test k a b is = let f = factor k a b is in power-test a f.0 f.1

pub other-test : (k a b : ℕ) → a * b ≡ 2 ^ k → is_power_of_two b ≡ true
other-test k a b is = factor-test k b a (mul_comm b a ∙ is)

pub first-test : (k a b c : ℕ) → a * b * c ≡ 2 ^ k → is_power_of_two a ≡ true
first-test k a b c is = factor-test k a (b * c) (sym (mul_assoc a b c) ∙ is)

pub second-test : (k a b c : ℕ) → a * b * c ≡ 2 ^ k → is_power_of_two b ≡ true
second-test k a b c is = first-test k b a c (ap (λ x. x * c) (mul_comm b a) ∙ is)

pub third-test : (k a b c : ℕ) → a * b * c ≡ 2 ^ k → is_power_of_two c ≡ true
third-test k a b c is = other-test k (a * b) c is
