-- Sums over all sectors.
use Rattle.std.proofs.Common.{◌≡◌, ◌≢◌, ℕ, zero, suc, ◌+◌, ◌<◌, refl, ap, arith, inl, inr}
use Rattle.std.proofs.lemmas.Bool.{cases_eq}
use Rattle.atomic_sectors.specs.Sectors.{total}

module _ (f g : ℕ → ℕ) where
  pub total-same : (k : ℕ) → ((i : ℕ) → i < k → f i ≡ g i) → total k f ≡ total k g
  total-same zero same = refl
  total-same (suc k) same =
      let below = total-same k (λ i h. same i (omega arith)) in
      let here = same k (omega arith) in
      omega (arith, below, here)

  -- one of them is changed
  pub total-changed : (k at : ℕ) → at < k → ((i : ℕ) → i < k → i ≢ at → f i ≡ g i) → total k f + g at ≡ total k g + f at
  total-changed zero at h same = absurd (omega arith)
  total-changed (suc k) at h same = elim (cases_eq k at) [
    | inl last ↦
        let below = total-same k (λ i b. same i (omega arith) (λ e. absurd (omega (arith, e, b, last)))) in
        let f_last : f k ≡ f at = ap f last in
        let g_last : g k ≡ g at = ap g last in
        omega (arith, below, f_last, g_last)
    | inr other ↦
        let within : at < k = omega arith in
        let below = total-changed k at within (λ i b n. same i (omega arith) n) in
        let here = same k (omega arith) other in
        omega (arith, below, here)
  ]
