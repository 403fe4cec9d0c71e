-- What holds of each number below a bound, computed one by one.
use Rattle.std.proofs.Common.{◌≡◌, inl, inr, ℕ, zero, suc, ◌<◌, ◌&&◌, Bool, true, sym, subst, arith}
use Rattle.std.{specs.Prelude.nat_lt, proofs.lemmas.Bool.{and_parts, cases_eq, ltb-true}}

abbrev pub each_below : (ℕ → Bool) → ℕ → Bool
each_below test zero = true
each_below test (suc bound) = test bound && each_below test bound

pub below : (test : ℕ → Bool) (bound : ℕ) → each_below test bound ≡ true → (number : ℕ) → number < bound → test number ≡ true
below test zero all number lt = absurd (omega (arith, lt))
below test (suc bound) all number lt =
    let parts = and_parts (test bound) (each_below test bound) all in
    elim (cases_eq number bound) [
      | inl same ↦ subst (λ k. test k ≡ true) (sym same) parts.0
      | inr other ↦ below test bound parts.1 number (omega (arith, lt, other))
    ]

-- each of these numbers stays below a limit
pub each-less : (number : ℕ → ℕ) (limit bound : ℕ) → each_below (λ k. nat_lt (number k) limit) bound ≡ true → (k : ℕ) → k < bound → number k < limit
each-less number limit bound all k lt = ltb-true (number k) limit (below (λ k. nat_lt (number k) limit) bound all k lt)
