-- The number that a run of cells gives.
use Rattle.std.proofs.Common.{◌≡◌, ℕ, zero, suc, ◌+◌, ◌*◌, ◌%◌, ◌^◌, ◌<◌, ◌≤◌, Bool, true, false, cond, refl, ap, ◌∙◌, inl, inr, arith}
use Rattle.std.proofs.{Math.Pow.pow_mono, lemmas.Bool.cases_lt}
use Rattle.ecp_line.specs.Layout.{number, pointer, pointer_cell, replacement_cell, width}

-- equal cells give equal numbers
pub number-same : (f g : ℕ → Bool) (from n : ℕ) → ((i : ℕ) → from ≤ i → i < from + n → f i ≡ g i) → number f from n ≡ number g from n
unfolding number
number-same f g from zero h = refl
number-same f g from (suc n) h =
    let e = number-same f g from n (λ i low high. h i low (omega arith)) in
    let c = ap (λ b. cond b (2 ^ n) 0) (h (from + n) (omega arith) (omega arith)) in omega arith

digit-le : (b : Bool) (n : ℕ) → cond b (2 ^ n) 0 ≤ 2 ^ n
digit-le b n = grind arith

-- n cells give a number of n digits
pub number-lt : (f : ℕ → Bool) (from n : ℕ) → number f from n < 2 ^ n
unfolding number
number-lt f from zero = omega arith
number-lt f from (suc n) = let t = number-lt f from n in let d = digit-le (f (from + n)) n in grind arith

-- equal pointer cells give equal pointers
pub pointer-same : (B : ℕ) (f g : ℕ → Bool) (i : ℕ) → ((n : ℕ) → pointer_cell B i ≤ n → n < replacement_cell B i → f n ≡ g n) → pointer B f i ≡ pointer B g i
pointer-same B f g i h = number-same f g (pointer_cell B i) (width B) h

-- one more cell adds its digit
pub number-one : (f : ℕ → Bool) (from n : ℕ) → f (from + n) ≡ true → number f from (n + 1) ≡ number f from n + 2 ^ n
unfolding number
number-one f from n h =
    let e : n + 1 ≡ suc n = omega arith in
    ap (λ (k : ℕ). number f from k) e ∙ ap (λ (b : Bool). number f from n + cond b (2 ^ n) 0) h

pub number-zero : (f : ℕ → Bool) (from n : ℕ) → f (from + n) ≡ false → number f from (n + 1) ≡ number f from n
unfolding number
number-zero f from n h =
    let e : n + 1 ≡ suc n = omega arith in
    ap (λ (k : ℕ). number f from k) e ∙ ap (λ (b : Bool). number f from n + cond b (2 ^ n) 0) h ∙ (omega arith)

pub number-none : (f : ℕ → Bool) (from : ℕ) → number f from 0 ≡ 0
unfolding number
number-none f from = refl

-- a line has at most 1,024 bits
pub width-small : (B : ℕ) → 2 ^ width B ≡ 8 * B → B ≤ 128 → width B ≤ 10
width-small B digits small =
    elim (cases_lt 10 (width B)) as (λ _. width B ≤ 10) [
      | inl big ↦ let t : 2 ^ 11 ≤ 2 ^ width B = pow_mono {i = 11} {j = width B} (omega arith) in absurd (omega arith)
      | inr le ↦ le
    ]

-- a digit's weight, as the code makes it
pub shifted : (d : ℕ) → d < 11 → 1 * 2 ^ d % 2 ^ 16 ≡ 2 ^ d
shifted d h = let t : 2 ^ d ≤ 2 ^ 10 = pow_mono {i = d} {j = 10} (omega arith) in omega arith

pub weight-small : (d : ℕ) → d < 11 → 2 ^ d ≤ 1024
weight-small d h = pow_mono {i = d} {j = 10} (omega arith)
