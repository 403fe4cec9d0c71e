-- Cells that are wanted one after the other.
use Rattle.std.proofs.Common.{◌≡◌, ◌≢◌, ℕ, zero, suc, ◌+◌, ◌*◌, ◌/◌, ◌%◌, ◌^◌, ◌<◌, ◌&&◌, Bool, true, false, cond, sym, ap, ◌∙◌, inl, inr, arith, eqb, ltb, leb, bit_and}
use Rattle.std.{specs.Int.bit_at, proofs.Math.Arith.mod-mul, proofs.Math.Nat.{pow-succ', mod-eq_of_lt}, proofs.lemmas.Bool.{eqb-true, eqb-false, cases_eq, cases_Bool, both_ways}}
use Rattle.std.proofs.{lemmas.Bool.Decides.nat_tests, lemmas.Nat.pow_pos, lemmas.Nat.Bits.{shr_and_one, bit_at-lt}}
use Rattle.ecp_line.{specs.Layout.number, proofs.Correcting.{set-same, set-other}, proofs.Digits.{number-same, number-none, number-one, number-zero}}

run-test : (from size q n : ℕ) → q ≡ from + size → cond (eqb n q) true (leb from n && ltb n (from + size)) ≡ (leb from n && ltb n (from + (size + 1)))
run-test from size q n at = grind (arith, nat_tests)

-- a mask with one more cell at its end
pub run-more : (new old : ℕ → Bool) (from size q : ℕ) → q ≡ from + size → ((n : ℕ) → new n ≡ cond (eqb n q) true (old n))
    → ((n : ℕ) → old n ≡ (leb from n && ltb n (from + size))) → (n : ℕ) → new n ≡ (leb from n && ltb n (from + (size + 1)))
run-more new old from size q at set before n =
    set n ∙ ap (cond (eqb n q) true) (before n) ∙ run-test from size q n at

pub run-none : (from n : ℕ) → (leb from n && ltb n (from + 0)) ≡ false
run-none from n = grind (arith, nat_tests)

pub run-closed : (from size n : ℕ) → (leb from n && ltb n (from + (size + 1))) ≡ (leb from n && leb n (from + size))
run-closed from size n = grind (arith, nat_tests)

-- the same run, by other names of its ends
pub run-moved : (m : ℕ → Bool) (first size from n : ℕ) → first ≡ from → size ≡ n → ((i : ℕ) → m i ≡ (leb first i && ltb i (first + size))) → (i : ℕ) → m i ≡ (leb from i && ltb i (from + n))
run-moved m first size from n at as_many before i =
    before i ∙ ap (λ (k : ℕ). leb k i && ltb i (k + size)) at ∙ ap (λ (k : ℕ). leb from i && ltb i (from + k)) as_many

-- other cells are wanted as they are, also after one more is wanted
pub others-more : (f w m w1 m1 : ℕ → Bool) (q : ℕ) (v : Bool) → ((n : ℕ) → w1 n ≡ cond (eqb n q) v (w n)) → ((n : ℕ) → m1 n ≡ cond (eqb n q) true (m n))
    → ((n : ℕ) → m n ≡ false → w n ≡ f n) → (n : ℕ) → m1 n ≡ false → w1 n ≡ f n
others-more f w m w1 m1 q v set_w set_m before n h =
    elim (cases_eq n q) as (λ _. w1 n ≡ f n) [
      | inl e ↦ absurd (both_ways (m1 n) h (set-same m1 m q true set_m n e))
      | inr ne ↦ set-other w1 w q v set_w n ne ∙ before n (sym (set-other m1 m q true set_m n ne) ∙ h)
    ]

-- one more digit of a number
pub digit-more : (x d : ℕ) → x % 2 ^ (d + 1) ≡ x % 2 ^ d + bit_at x d * 2 ^ d
digit-more x d =
    let e : d + 1 ≡ suc d = omega arith in
    ap (λ (k : ℕ). x % 2 ^ k) e ∙ ap (λ (k : ℕ). x % k) (pow-succ' 2 d) ∙ mod-mul x {m = 2} {c = 2 ^ d} (omega arith) (pow_pos d) ∙ (omega arith)

pub digits-none : (f : ℕ → Bool) (from x : ℕ) → number f from 0 ≡ x % 2 ^ 0
digits-none f from x = number-none f from ∙ (omega arith)

digit-last : (f : ℕ → Bool) (from x d : ℕ) → number f from d ≡ x % 2 ^ d → f (from + d) ≡ eqb (bit_at x d) 1 → x % 2 ^ (d + 1) ≡ x % 2 ^ d + bit_at x d * 2 ^ d
    → number f from (d + 1) ≡ x % 2 ^ (d + 1)
digit-last f from x d before last more =
    elim (cases_Bool (f (from + d))) as (λ _. number f from (d + 1) ≡ x % 2 ^ (d + 1)) [
      | inl on ↦
          let bit : bit_at x d ≡ 1 = eqb-true (bit_at x d) 1 (sym last ∙ on) in
          let weight : bit_at x d * 2 ^ d ≡ 1 * 2 ^ d = ap (λ (k : ℕ). k * 2 ^ d) bit in
          let step = number-one f from d on in omega arith
      | inr off ↦
          let low = bit_at-lt x d in
          let not_one : bit_at x d ≢ 1 = eqb-false (bit_at x d) 1 (sym last ∙ off) in
          let bit : bit_at x d ≡ 0 = omega arith in
          let weight : bit_at x d * 2 ^ d ≡ 0 * 2 ^ d = ap (λ (k : ℕ). k * 2 ^ d) bit in
          let step = number-zero f from d off in omega arith
    ]

-- a number by its digits
pub digits-from : (f : ℕ → Bool) (from x n : ℕ) → ((i : ℕ) → i < n → f (from + i) ≡ eqb (bit_at x i) 1) → number f from n ≡ x % 2 ^ n
digits-from f from x zero h = digits-none f from x
digits-from f from x (suc d) h =
    let e : d + 1 ≡ suc d = omega arith in
    let before = digits-from f from x d (λ i l. h i (omega arith)) in
    let more = digit-more x d in
    let last = h d (omega arith) in
    ap (λ (k : ℕ). number f from k) (sym e) ∙ digit-last f from x d before last more ∙ ap (λ (k : ℕ). x % 2 ^ k) e

-- the digits of a bit's number, written one after the other
pub digits-more : (w w1 : ℕ → Bool) (from d q x : ℕ) (v : Bool) → q ≡ from + d → v ≡ eqb (bit_and (x / 2 ^ d) 1) 1
    → ((n : ℕ) → w1 n ≡ cond (eqb n q) v (w n)) → number w from d ≡ x % 2 ^ d → number w1 from (d + 1) ≡ x % 2 ^ (d + 1)
digits-more w w1 from d q x v at value set before =
    digit-last w1 from x d
    (number-same w1 w from d (λ i low high. set-other w1 w q v set i (λ e. omega arith)) ∙ before)
    (set-same w1 w q v set (from + d) (sym at) ∙ value ∙ ap (λ (k : ℕ). eqb k 1) (shr_and_one x d))
    (digit-more x d)

-- all the digits of a number
pub digits-done : (f : ℕ → Bool) (first size from n x : ℕ) → first ≡ from → size ≡ n → x < 2 ^ n → number f first size ≡ x % 2 ^ size → number f from n ≡ x
digits-done f first size from n x at as_many small before =
    ap (λ (k : ℕ). number f k n) (sym at) ∙ ap (number f first) (sym as_many) ∙ before ∙ ap (λ (k : ℕ). x % 2 ^ k) as_many ∙ mod-eq_of_lt small

-- ---- clearing
