-- A list with another value at one index.
use Rattle.std.proofs.Common.{◌≡◌, ℕ, zero, suc, ◌<◌, List, [], ◌∷◌, length, Some, refl, ap, arith}
use Rattle.std.specs.Prelude.{slice_get, slice_set}

pub get_set_same : {X : Type 0} (xs : List X) (i : ℕ) (x : X) → i < length xs → slice_get (slice_set xs i x) i ≡ Some x
get_set_same [] i x lt = absurd (omega (arith, lt))
get_set_same (y ∷ ys) zero x lt = refl
get_set_same (y ∷ ys) (suc i) x lt = get_set_same ys i x (omega (arith, lt))

pub get_set_other : {X : Type 0} (xs : List X) (i k : ℕ) (x : X) → (k ≡ i → ⊥) → slice_get (slice_set xs i x) k ≡ slice_get xs k
get_set_other [] i k x off = refl
get_set_other (y ∷ ys) zero zero x off = absurd (off refl)
get_set_other (y ∷ ys) zero (suc k) x off = refl
get_set_other (y ∷ ys) (suc i) zero x off = refl
get_set_other (y ∷ ys) (suc i) (suc k) x off = get_set_other ys i k x (λ e. off (ap suc e))

pub some_same : {X : Type 0} (x y : X) → Some x ≡ Some y → x ≡ y
some_same x y is = cc
