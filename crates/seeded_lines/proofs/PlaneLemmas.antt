-- Numbers of cells by their binary digits.
use mir.Val.{bool_byte}
use Rattle.std.proofs.Common.{◌≡◌, ℕ, ◌+◌, ◌*◌, ◌<◌, ◌≤◌, ◌&&◌, Bool, true, false, not, cond, ltb, refl, sym, ◌∙◌, ap, inl, inr, arith, true≢false}
use Rattle.std.proofs.lemmas.Bool.{cases_lt, lt-ltb, le-ltb}
use Rattle.seeded_lines.specs.{Planes.{number_of, digit, zero_digits}, declared.digits.Digits.Digits}
use Rattle.cell_rows.{specs.Rows.{cell, xor}, proofs.RowLemmas.cell-zeros}

pub digit-is : {B M : ℕ} (digits : Digits B M) (n : ℕ) → digit digits n ≡ number_of (cell digits.low n) (cell digits.middle n) (cell digits.high n)
unfolding digit
digit-is digits n = refl

few_low : (low middle : Bool) → cond low 1 0 + cond middle 2 0 ≤ 3
few_low true true = omega arith
few_low true false = omega arith
few_low false true = omega arith
few_low false false = omega arith

few_high : (high : Bool) → cond high 4 0 ≤ 4
few_high true = omega arith
few_high false = omega arith

pub number_few : (low middle high : Bool) → number_of low middle high ≤ 7
number_few low middle high = omega (arith, few_low low middle, few_high high)

-- a number whose digits aren't all 1
pub number_not_full : (low middle high : Bool) → ((low && middle) && high) ≡ false → number_of low middle high < 7
number_not_full true true true e = absurd (true≢false e)
number_not_full true true false e = omega arith
number_not_full true false true e = omega arith
number_not_full true false false e = omega arith
number_not_full false true true e = omega arith
number_not_full false true false e = omega arith
number_not_full false false true e = omega arith
number_not_full false false false e = omega arith

-- a number as the sum of its digits
pub number_by_digits : (low middle high : Bool) → bool_byte low + 2 * bool_byte middle + 4 * bool_byte high ≡ number_of low middle high
number_by_digits true true true = refl
number_by_digits true true false = refl
number_by_digits true false true = refl
number_by_digits true false false = refl
number_by_digits false true true = refl
number_by_digits false true false = refl
number_by_digits false false true = refl
number_by_digits false false false = refl

-- no number is above 7
pub digit_few : {B M : ℕ} (digits : Digits B M) (n : ℕ) → digit digits n ≤ 7
digit_few digits n = rw (digit-is digits n) (number_few (cell digits.low n) (cell digits.middle n) (cell digits.high n))

pub digit-zeros : (B M n : ℕ) → digit (zero_digits B M) n ≡ 0
digit-zeros B M n =
    let none : cell (zero_digits B M).low n ≡ false = cell-zeros B M n in
    digit-is (zero_digits B M) n ∙ ap (λ b. number_of b b b) none

chosen_number : (t a b c x y z : Bool) → number_of (cond t a x) (cond t b y) (cond t c z) ≡ cond t (number_of a b c) (number_of x y z)
chosen_number true a b c x y z = refl
chosen_number false a b c x y z = refl

-- two numbers compare by their highest digits, and where these agree by what stands below
below_digit : (unit m n : ℕ) (a b : Bool) → m < unit → n < unit → ltb (m + cond a unit 0) (n + cond b unit 0) ≡ cond (xor a b) b (ltb m n)
below_digit unit m n true true low_m low_n =
    elim (cases_lt m n) as (λ _. ltb (m + unit) (n + unit) ≡ ltb m n) [
      | inl low ↦ lt-ltb _ _ (omega arith) ∙ sym (lt-ltb m n low)
      | inr high ↦ le-ltb _ _ (omega arith) ∙ sym (le-ltb m n high)
    ]
below_digit unit m n true false low_m low_n = le-ltb _ _ (omega arith)
below_digit unit m n false true low_m low_n = lt-ltb _ _ (omega arith)
below_digit unit m n false false low_m low_n =
    elim (cases_lt m n) as (λ _. ltb (m + 0) (n + 0) ≡ ltb m n) [
      | inl low ↦ lt-ltb _ _ (omega arith) ∙ sym (lt-ltb m n low)
      | inr high ↦ le-ltb _ _ (omega arith) ∙ sym (le-ltb m n high)
    ]

below_low : (a x : Bool) → ltb (cond a 1 0) (cond x 1 0) ≡ not a && x
below_low true true = refl
below_low true false = refl
below_low false true = refl
below_low false false = refl

one_small : (a : Bool) → cond a 1 0 < 2
one_small true = omega arith
one_small false = omega arith

pub below_digits : (a b c x y z : Bool) → cond (xor c z) z (cond (xor b y) y (not a && x)) ≡ ltb (number_of a b c) (number_of x y z)
below_digits a b c x y z =
    sym (below_digit 4 (cond a 1 0 + cond b 2 0) (cond x 1 0 + cond y 2 0) c z (omega (arith, few_low a b)) (omega (arith, few_low x y))
    ∙ ap (cond (xor c z) z) (below_digit 2 (cond a 1 0) (cond x 1 0) b y (one_small a) (one_small x) ∙ ap (cond (xor b y) y) (below_low a x)))

-- one more, or none
pub grown : (more none a b c : Bool) → (more ≡ true → number_of a b c < 7)
    → number_of (not none && xor more a) (not none && xor (more && a) b) (not none && xor ((more && a) && b) c)
    ≡ cond none 0 (cond more (number_of a b c + 1) (number_of a b c))
grown more true a b c few = refl
grown false false a b c few = refl
grown true false false true true few = refl
grown true false false true false few = refl
grown true false false false true few = refl
grown true false false false false few = refl
grown true false true true true few = absurd (omega (arith, few refl))
grown true false true true false few = refl
grown true false true false true few = refl
grown true false true false false few = refl

-- the same of one cell's number
pub digit_grown : {B M : ℕ} (old new : Digits B M) (n : ℕ) (more none : Bool) → (more ≡ true → digit old n < 7)
    → cell new.low n ≡ (not none && xor more (cell old.low n))
    → cell new.middle n ≡ (not none && xor (more && cell old.low n) (cell old.middle n))
    → cell new.high n ≡ (not none && xor ((more && cell old.low n) && cell old.middle n) (cell old.high n))
    → digit new n ≡ cond none 0 (cond more (digit old n + 1) (digit old n))
digit_grown old new n more none few low middle high =
    digit-is new n
    ∙ rw (low, middle, high, digit-is old n)
    (grown more none (cell old.low n) (cell old.middle n) (cell old.high n) (λ h. rw (← digit-is old n) (few h)))

-- a number stays where its digits do
pub digit_kept : {B M : ℕ} (old new : Digits B M) (n : ℕ) → cell new.low n ≡ cell old.low n → cell new.middle n ≡ cell old.middle n
    → cell new.high n ≡ cell old.high n → digit new n ≡ digit old n
digit_kept old new n low middle high = digit-is new n ∙ rw (low, middle, high, digit-is old n) refl

-- one more, where 7 becomes 0 with a carry
carried : (more a b c : Bool) → number_of (xor more a) (xor (more && a) b) (xor ((more && a) && b) c) + cond (((more && a) && b) && c) 8 0
    ≡ number_of a b c + cond more 1 0
carried true true true true = refl
carried true true true false = refl
carried true true false true = refl
carried true true false false = refl
carried true false true true = refl
carried true false true false = refl
carried true false false true = refl
carried true false false false = refl
carried false true true true = refl
carried false true true false = refl
carried false true false true = refl
carried false true false false = refl
carried false false true true = refl
carried false false true false = refl
carried false false false true = refl
carried false false false false = refl

pub digit_carried : {B M : ℕ} (old new : Digits B M) (n : ℕ) (more carry : Bool) → cell new.low n ≡ xor more (cell old.low n)
    → cell new.middle n ≡ xor (more && cell old.low n) (cell old.middle n)
    → cell new.high n ≡ xor ((more && cell old.low n) && cell old.middle n) (cell old.high n)
    → carry ≡ (((more && cell old.low n) && cell old.middle n) && cell old.high n)
    → digit new n + cond carry 8 0 ≡ digit old n + cond more 1 0
digit_carried old new n more carry low middle high over =
    rw (digit-is new n, low, middle, high, over, digit-is old n) (carried more (cell old.low n) (cell old.middle n) (cell old.high n))
