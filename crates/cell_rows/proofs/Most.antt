-- The greatest of some numbers.
use Rattle.std.proofs.Common.{◌≡◌, ℕ, zero, suc, ◌+◌, ◌<◌, max, refl, arith, add-one}
use Rattle.cell_rows.specs.Told.{most}

pub most-zero : (number : ℕ → ℕ) → most number 0 ≡ 0
unfolding most
most-zero number = refl

-- the same numbers have the same greatest
pub most-same : (a b : ℕ → ℕ) (n : ℕ) → ((k : ℕ) → k < n → a k ≡ b k) → most a n ≡ most b n
unfolding most
most-same a b zero same = refl
most-same a b (suc n) same =
    rw (most-same a b n (λ k h. same k (omega (arith, h))), same n (omega arith)) refl

-- where all are 0, it is 0
pub most-none : (a : ℕ → ℕ) (n : ℕ) → ((k : ℕ) → k < n → a k ≡ 0) → most a n ≡ 0
unfolding most
most-none a zero none = refl
most-none a (suc n) none = rw (most-none a n (λ k h. none k (omega (arith, h))), none n (omega arith)) refl

-- one more number
pub most-more : (number : ℕ → ℕ) (n : ℕ) → most number (n + 1) ≡ max (most number n) (number n)
unfolding most
most-more number n = rw add-one refl
