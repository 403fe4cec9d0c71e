-- A family of cells of which the masked ones follow a rule.
use Rattle.std.specs.Prelude.{ℕ, ◌≡◌, ◌<◌, ◌≤◌, Bool, if◌then◌else◌}

-- each masked cell follows the rule, and the others stay
abbrev pub Follows : {X : Type 0} → (ℕ → Bool) → (ℕ → X → X) → (ℕ → X) → (ℕ → X) → Type 0
Follows mask rule old new = (n : ℕ) → new n ≡ (if mask n then rule n (old n) else old n)

-- the same of the cells from `low` up to `high`, all others being as they were
pub record FollowsIn {X : Type 0} (low high : ℕ) (mask : ℕ → Bool) (rule : ℕ → X → X) (old new : ℕ → X) : Type 0 where
  pub inside : (n : ℕ) → low ≤ n → n < high → new n ≡ (if mask n then rule n (old n) else old n)
  pub below : (n : ℕ) → n < low → new n ≡ old n
  pub above : (n : ℕ) → high ≤ n → new n ≡ old n
