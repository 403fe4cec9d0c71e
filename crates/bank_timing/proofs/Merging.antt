-- The first so many of one list, and the rest of another.
use Rattle.std.proofs.Common.{◌≡◌, ℕ, ◌<◌, ◌≤◌, List, [], ◌∷◌, zero, suc, length, get_or, slice_set, refl, ap, arith}
use Rattle.bank_timing.specs.Reading.{merged}

module _ {A : Type 0} where
  -- all of the first list
  pub merged-all : (xs ys : List A) → length xs ≡ length ys → merged (length xs) xs ys ≡ xs
  merged-all [] [] long = refl
  merged-all [] (y ∷ ys) long = absurd (omega (arith, long))
  merged-all (x ∷ xs) [] long = absurd (omega (arith, long))
  merged-all (x ∷ xs) (y ∷ ys) long = ap (λ (zs : List A). x ∷ zs) (merged-all xs ys (omega (arith, long)))

  -- one more of it
  pub merged-more : (i : ℕ) (xs ys : List A) (d : A) → i < length xs → length xs ≡ length ys → slice_set (merged i xs ys) i (get_or xs i d) ≡ merged (suc i) xs ys
  merged-more i [] ys d below long = absurd (omega (arith, below))
  merged-more i (x ∷ xs) [] d below long = absurd (omega (arith, long))
  merged-more zero (x ∷ xs) (y ∷ ys) d below long = refl
  merged-more (suc i) (x ∷ xs) (y ∷ ys) d below long = ap (λ (zs : List A). x ∷ zs) (merged-more i xs ys d (omega (arith, below)) (omega (arith, long)))

  -- what stands at an index
  pub merged-low : (i k : ℕ) (xs ys : List A) (d : A) → k < i → length xs ≡ length ys → get_or (merged i xs ys) k d ≡ get_or xs k d
  merged-low zero k xs ys d below long = absurd (omega (arith, below))
  merged-low (suc i) k [] [] d below long = refl
  merged-low (suc i) k [] (y ∷ ys) d below long = absurd (omega (arith, long))
  merged-low (suc i) k (x ∷ xs) [] d below long = absurd (omega (arith, long))
  merged-low (suc i) zero (x ∷ xs) (y ∷ ys) d below long = refl
  merged-low (suc i) (suc k) (x ∷ xs) (y ∷ ys) d below long = merged-low i k xs ys d (omega (arith, below)) (omega (arith, long))

  pub merged-high : (i k : ℕ) (xs ys : List A) (d : A) → i ≤ k → length xs ≡ length ys → get_or (merged i xs ys) k d ≡ get_or ys k d
  merged-high zero k xs ys d behind long = refl
  merged-high (suc i) k [] [] d behind long = refl
  merged-high (suc i) k [] (y ∷ ys) d behind long = absurd (omega (arith, long))
  merged-high (suc i) k (x ∷ xs) [] d behind long = absurd (omega (arith, long))
  merged-high (suc i) zero (x ∷ xs) (y ∷ ys) d behind long = absurd (omega (arith, behind))
  merged-high (suc i) (suc k) (x ∷ xs) (y ∷ ys) d behind long = merged-high i k xs ys d (omega (arith, behind)) (omega (arith, long))
