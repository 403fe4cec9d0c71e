-- Outcomes in the order of their ticks.
use Rattle.std.proofs.Common.{◌≡◌, ℕ, ◌≤◌, false, List, [], ◌∷◌, ◌++◌, Some, arith}
use Rattle.std.{specs.Prelude.All, proofs.lemmas.List.Elements.{All-nil, All-cons}}
use Rattle.result_rows.specs.{Outcomes.tick_of, declared.Outcome.Outcome}
use Rattle.row_rules.specs.Answers.{is_queued}
use Rattle.bank_timing.specs.Telling.{IsKnownAt}
use Rattle.row_stream.specs.Serving.{ComeByTick}

after : (a b c : ℕ) → a ≤ b → b ≤ c → a ≤ c
after a b c first second = omega (arith, first, second)

still : (tick : ℕ) → tick ≤ tick
still tick = omega arith

pub from-first : (tick : ℕ) → 0 ≤ tick
from-first tick = omega arith

module _ {n : ℕ} where
  -- each of these outcomes is of a kind
  abbrev pub EachSo : (Outcome n → Type 0) → List (ℕ × Outcome n) → Type 0
  EachSo Are [] = Unit {0}
  EachSo Are (one ∷ outcomes) = Are one.1 × EachSo Are outcomes

  pub each-all : (Are : Outcome n → Type 0) (outcomes : List (ℕ × Outcome n)) → EachSo Are outcomes → All (λ one. Are one.1) outcomes
  each-all Are [] each = All-nil (λ (one : ℕ × Outcome n). Are one.1)
  each-all Are (one ∷ outcomes) each = All-cons (λ (one : ℕ × Outcome n). Are one.1) one outcomes each.0 (each-all Are outcomes each.1)

  -- they come in the order of their ticks, from one tick to another
  abbrev pub Within : ℕ → ℕ → List (ℕ × Outcome n) → Type 0
  Within from to [] = from ≤ to
  Within from to (one ∷ outcomes) = (tick : ℕ) × (from ≤ tick) × (tick_of one.1 ≡ Some tick) × (is_queued one.1 ≡ false) × Within tick to outcomes

  pub within-later : (from to more : ℕ) (outcomes : List (ℕ × Outcome n)) → to ≤ more → Within from to outcomes → Within from more outcomes
  within-later from to more [] later is = after from to more is later
  within-later from to more (one ∷ outcomes) later is = (is.0, is.1, is.2, is.3, within-later is.0 to more outcomes later is.4)

  within-earlier : (before from to : ℕ) (outcomes : List (ℕ × Outcome n)) → before ≤ from → Within from to outcomes → Within before to outcomes
  within-earlier before from to [] earlier is = after before from to earlier is
  within-earlier before from to (one ∷ outcomes) earlier is = (is.0, after before from is.0 earlier is.1, is.2, is.3, is.4)

  pub within-both : (from mid to : ℕ) (xs ys : List (ℕ × Outcome n)) → Within from mid xs → Within mid to ys → Within from to (xs ++ ys)
  within-both from mid to [] ys first second = within-earlier from mid to ys first second
  within-both from mid to (one ∷ xs) ys first second = (first.0, first.1, first.2, first.3, within-both first.0 mid to xs ys first.4 second)

  -- so do those of one tick
  pub within-one : (tick : ℕ) (outcomes : List (ℕ × Outcome n)) → EachSo (λ o. IsKnownAt tick o) outcomes → Within tick tick outcomes
  within-one tick [] each = still tick
  within-one tick (one ∷ outcomes) each = (tick, still tick, each.0.at, each.0.known, within-one tick outcomes each.1)

  pub by-tick : (from to : ℕ) (outcomes : List (ℕ × Outcome n)) → Within from to outcomes → ComeByTick from outcomes
  by-tick from to [] is = tt
  by-tick from to (one ∷ outcomes) is = (is.0, is.1, is.2, is.3, by-tick is.0 to outcomes is.4)
