-- Pulses are counted up to the greatest u64.
use Rattle.std.proofs.Common.{◌≡◌, ℕ, ◌+◌, ◌-◌, ◌<◌, ◌≤◌, ◌^◌, ◌⊎◌, inl, inr, Bool, true, false, List, [], ◌∷◌, cond, arith}
use Rattle.std.{specs.Prelude.min, proofs.Math.Nat.min-le_right, proofs.lemmas.Bool.cases_lt}
use Rattle.cell_rows.specs.Device.{counted}
use Rattle.bank_model.specs.{Sensing.{is_at, pulses_of}, Timing.TimedEvent}

-- one more up to a bound is one more, or the same at the bound
bounded : (most p : ℕ) → p ≤ most → (min (p + 1) most ≡ p) ⊎ (min (p + 1) most ≡ p + 1)
bounded most p le = by (cases_lt p most)
  where
    by : (p < most) ⊎ (most ≤ p) → (min (p + 1) most ≡ p) ⊎ (min (p + 1) most ≡ p + 1)
    by (inl lt) = inr (omega arith)
    by (inr ge) = inl (omega arith)

pub counted-cases : (p : ℕ) → p ≤ 2 ^ 64 - 1 → (counted p ≡ p) ⊎ (counted p ≡ p + 1)
counted-cases p le = bounded (2 ^ 64 - 1) p le

pub pulses-few : {n m : ℕ} (xs : List (TimedEvent n m)) (line : ℕ) → pulses_of xs line ≤ 2 ^ 64 - 1
pulses-few [] line = omega arith
pulses-few (x ∷ xs) line = by (is_at x.pulsed line) (pulses-few xs line)
  where
    by : (b : Bool) → pulses_of xs line ≤ 2 ^ 64 - 1 → cond b (counted (pulses_of xs line)) (pulses_of xs line) ≤ 2 ^ 64 - 1
    by true before = min-le_right (pulses_of xs line + 1) (2 ^ 64 - 1)
    by false before = before
