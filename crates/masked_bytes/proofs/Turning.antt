-- Tests in another order, and the lesser of two numbers; for the crates above.
use Rattle.std.proofs.Common.{◌≡◌, ℕ, ◌<◌, ◌≤◌, ◌&&◌, ◌||◌, ◌⊎◌, Bool, arith}
use Rattle.std.{specs.Prelude.{nat_le, min}, proofs.lemmas.Bool.cases_lt}

pub and_turn : (a b c : Bool) → (a && (b && c)) ≡ (b && (a && c))
and_turn a b c = grind arith

pub and_mid : (a b c : Bool) → ((a && b) && c) ≡ (b && (a && c))
and_mid a b c = grind arith

pub and_group : (a b c : Bool) → (a && (b && c)) ≡ ((a && b) && c)
and_group a b c = grind arith

-- one of two numbers is at most a third where the lesser is
pub either_least : (u v e : ℕ) → nat_le (min u v) e ≡ (nat_le u e || nat_le v e)
either_least u v e = by (cases_lt e u) (cases_lt e v)
  where
    by : (e < u) ⊎ (u ≤ e) → (e < v) ⊎ (v ≤ e) → nat_le (min u v) e ≡ (nat_le u e || nat_le v e)
    by x0 k = grind arith
