-- Whether a read of a line waits.
use Rattle.std.proofs.Common.{◌≡◌, ◌≢◌, ℕ, ◌+◌, ◌≤◌, ◌==◌, ◌||◌, refl, sym, ap, ◌∙◌, true, false, List, [], ◌∷◌, zero, suc, length, get_or, take, slice_get, Some, eq-eqb, arith}
use Rattle.std.{specs.List.list_any, proofs.lemmas.Bool.ne_eqb, proofs.lemmas.List.Folds.{list_any_at, list_any_more}}
use Rattle.std.proofs.lemmas.Option.{slice_get_within, get_or_from_slice_get}
use Rattle.bank_shape.specs.declared.waiting.Waiting.{Waiting}

module _ {n : ℕ} (line : ℕ) (ws : List (Waiting n)) (index : ℕ) where
  pub found_one : (w : Waiting n) → Some w ≡ slice_get ws index → w.line ≡ line → true ≡ list_any (λ w. w.line == line) ws
  found_one w is own =
      let at : get_or ws index w ≡ w = get_or_from_slice_get ws index w w (sym is) in
      sym (list_any_at (λ w. w.line == line) ws index w (slice_get_within ws index w (sym is)) (ap (λ (v : Waiting n). v.line == line) at ∙ eq-eqb w.line line own))

  pub none_yet : (w : Waiting n) → Some w ≡ slice_get ws index → w.line ≢ line → list_any (λ w. w.line == line) (take index ws) ≡ false
      → list_any (λ w. w.line == line) (take (index + 1) ws) ≡ false
  none_yet w is off none =
      let at : get_or ws index w ≡ w = get_or_from_slice_get ws index w w (sym is) in
      list_any_more (λ w. w.line == line) ws index w (slice_get_within ws index w (sym is))
      ∙ ap (λ b. b || (get_or ws index w).line == line) none
      ∙ ap (λ (v : Waiting n). v.line == line) at ∙ ne_eqb w.line line off

take_whole : {n : ℕ} (ws : List (Waiting n)) (index : ℕ) → length ws ≤ index → take index ws ≡ ws
take_whole [] zero all = refl
take_whole [] (suc index) all = refl
take_whole (w ∷ ws) zero all = let no : ⊥ = omega (arith, all) in absurd no
take_whole (w ∷ ws) (suc index) all = ap (λ xs. w ∷ xs) (take_whole ws index (omega (arith, all)))

pub none_at_all : {n : ℕ} (line : ℕ) (ws : List (Waiting n)) (index : ℕ) → length ws ≤ index → list_any (λ w. w.line == line) (take index ws) ≡ false
    → false ≡ list_any (λ w. w.line == line) ws
none_at_all line ws index all none = sym none ∙ ap (λ xs. list_any (λ w. w.line == line) xs) (take_whole ws index all)
