-- That the reads that wait are lost one at a time, in order.
use Rattle.std.proofs.Common.{◌≡◌, ℕ, ◌+◌, ◌<◌, ◌≤◌, refl, sym, ap, ◌∙◌, arith, List, [], ◌∷◌, ◌++◌, drop, map, length, slice_get, Some, None}
use Rattle.bank_shape.specs.declared.waiting.Waiting.{Waiting}

one-more : (lost : List ℕ) (row : ℕ) (rest : List ℕ) → (lost ++ row ∷ []) ++ rest ≡ lost ++ row ∷ rest
one-more [] row rest = refl
one-more (x ∷ lost) row rest = ap (λ xs. x ∷ xs) (one-more lost row rest)

nothing-after : (lost : List ℕ) → lost ++ [] ≡ lost
nothing-after [] = refl
nothing-after (x ∷ lost) = ap (λ xs. x ∷ xs) (nothing-after lost)

module _ {n : ℕ} where
  -- the rows that are lost in the end
  abbrev pub rows_with : List ℕ → List (Waiting n) → List ℕ
  rows_with lost ws = lost ++ map (λ w. w.row) ws

  pub lose-fewer : (ws : List (Waiting n)) (at all : ℕ) → at < all → length ws + at ≤ all → length (drop 1 ws) + (at + 1) ≤ all
  lose-fewer [] at all more few = omega (arith, more)
  lose-fewer (w ∷ ws) at all more few = omega (arith, few)

  pub lose-one : (lost : List ℕ) (ws : List (Waiting n)) (w : Waiting n) → Some w ≡ slice_get ws 0
      → rows_with (lost ++ w.row ∷ []) (drop 1 ws) ≡ rows_with lost ws
  lose-one lost [] w is = cc
  lose-one lost (v ∷ ws) w is =
      let same : w ≡ v = cc in
      one-more lost w.row (map (λ w. w.row) ws) ∙ ap (λ (u : Waiting n). lost ++ u.row ∷ map (λ w. w.row) ws) same

  pub lose-some : (ws : List (Waiting n)) (w : Waiting n) → Some w ≡ slice_get ws 0 → length ws ≡ length (drop 1 ws) + 1
  lose-some [] w is = cc
  lose-some (v ∷ ws) w is = omega arith

  pub lose-none : (ws : List (Waiting n)) → None ≡ slice_get ws 0 → drop 1 ws ≡ ws
  lose-none [] is = refl
  lose-none (v ∷ ws) is = cc

  pub lose-all : (ws : List (Waiting n)) (lost : List ℕ) → length ws ≤ 0 → (ws ≡ []) × (lost ≡ rows_with lost ws)
  lose-all [] lost few = (refl, sym (nothing-after lost))
  lose-all (w ∷ ws) lost few = let none : ⊥ = omega (arith, few) in absurd none
