-- What stands at an index of a list.
use Rattle.std.proofs.Common.{◌≡◌, ℕ, ◌<◌, sym, subst, arith, List, [], ◌∷◌, zero, suc, length, slice_get, Some, None}
use Rattle.std.{specs.Prelude.All, proofs.lemmas.Option.{none-some, slice_get_within, get_or_from_slice_get}}

-- what is true of all is true of what stands there
pub All-found : {X : Type 0} (P : X → Type 0) (xs : List X) (i : ℕ) (x : X)
    → Some x ≡ slice_get xs i → All P xs → P x
All-found P xs i x is all =
    subst P (get_or_from_slice_get xs i x x (sym is)) (all i x (slice_get_within xs i x (sym is)))

-- something stands within
pub none-within : {X : Type 0} (xs : List X) (i : ℕ) → None ≡ slice_get xs i → i < length xs → ⊥
none-within [] i none within = omega (arith, within)
none-within (x ∷ xs) zero none within = none-some x none
none-within (x ∷ xs) (suc i) none within = none-within xs i none (omega (arith, within))
