-- The rows of waiting reads, as they come and go, and numbers that differ.
use Rattle.std.proofs.Common.{◌≡◌, ℕ, ◌<◌, ◌==◌, Bool, true, false, List, [], ◌∷◌, ◌++◌, drop, refl, arith}
use Rattle.std.proofs.lemmas.Bool.{ne_eqb, or_from}
use Rattle.masked_bytes.proofs.Truth.{neither_first, neither_second, differ_sym}
use Rattle.bank_model.specs.History.{Awaited}
use Rattle.bank_laws.specs.Standing.{has_wait, WaitsApart}

-- by the two values of a test
pub either : {A : Type 0} (b : Bool) → (b ≡ true → A) → (b ≡ false → A) → A
either b f g = grind arith

pub differ : (a b : ℕ) → a < b → (a == b) ≡ false
differ a b lt = ne_eqb a b (λ e. omega arith)

pub differ_back : (a b : ℕ) → a < b → (b == a) ≡ false
differ_back a b lt = ne_eqb b a (λ e. omega arith)

pub no_wait-push : (ws : List Awaited) (w : Awaited) (r : ℕ) → has_wait ws r ≡ false → (w.row == r) ≡ false → has_wait (ws ++ w ∷ []) r ≡ false
no_wait-push [] w r h k = or_from (w.row == r) false k refl
no_wait-push (v ∷ ws) w r h k = or_from (v.row == r) _ (neither_first (v.row == r) _ h) (no_wait-push ws w r (neither_second (v.row == r) _ h) k)

pub no_wait-drop : (ws : List Awaited) (r : ℕ) → has_wait ws r ≡ false → has_wait (drop 1 ws) r ≡ false
no_wait-drop [] r h = refl
no_wait-drop (w ∷ ws) r h = neither_second (w.row == r) _ h

pub waits_apart-push : (ws : List Awaited) (w : Awaited) → WaitsApart ws → has_wait ws w.row ≡ false → WaitsApart (ws ++ w ∷ [])
waits_apart-push [] w a h = (refl, tt)
waits_apart-push (v ∷ ws) w a h = (
  no_wait-push ws w v.row a.0 (differ_sym v.row w.row (neither_first (v.row == w.row) _ h)),
  waits_apart-push ws w a.1 (neither_second (v.row == w.row) _ h),
)

pub waits_apart-drop : (ws : List Awaited) → WaitsApart ws → WaitsApart (drop 1 ws)
waits_apart-drop ws a = grind arith
