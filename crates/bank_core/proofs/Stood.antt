-- Whether a row stands among entries or reads.
use Rattle.std.proofs.Common.{◌≡◌, ◌≢◌, ℕ, ◌+◌, ◌≤◌, ◌==◌, ◌||◌, refl, sym, ap, ◌∙◌, true, false, List, [], ◌∷◌, zero, suc, length, get_or, take, slice_get, Some, eq-eqb, arith}
use Rattle.std.{specs.List.list_any, proofs.lemmas.Bool.ne_eqb, proofs.lemmas.List.Folds.{list_any_at, list_any_more}}
use Rattle.std.proofs.lemmas.Option.{slice_get_within, get_or_from_slice_get}
use Rattle.masked_bytes.specs.{Entries.has_row, declared.entry.Entry.Entry}

module _ {X : Type 0} (number : X → ℕ) (row : ℕ) (xs : List X) (index : ℕ) where
  pub found : (x : X) → Some x ≡ slice_get xs index → number x ≡ row → true ≡ list_any (λ x. number x == row) xs
  found x is own =
      let at : get_or xs index x ≡ x = get_or_from_slice_get xs index x x (sym is) in
      sym (list_any_at (λ x. number x == row) xs index x (slice_get_within xs index x (sym is)) (ap (λ (v : X). number v == row) at ∙ eq-eqb (number x) row own))

  pub not_yet : (x : X) → Some x ≡ slice_get xs index → number x ≢ row → list_any (λ x. number x == row) (take index xs) ≡ false
      → list_any (λ x. number x == row) (take (index + 1) xs) ≡ false
  not_yet x is off none =
      let at : get_or xs index x ≡ x = get_or_from_slice_get xs index x x (sym is) in
      list_any_more (λ x. number x == row) xs index x (slice_get_within xs index x (sym is))
      ∙ ap (λ b. b || number (get_or xs index x) == row) none
      ∙ ap (λ (v : X). number v == row) at ∙ ne_eqb (number x) row off

take_all : {X : Type 0} (xs : List X) (index : ℕ) → length xs ≤ index → take index xs ≡ xs
take_all [] zero all = refl
take_all [] (suc index) all = refl
take_all (x ∷ xs) zero all = let no : ⊥ = omega (arith, all) in absurd no
take_all (x ∷ xs) (suc index) all = ap (λ xs. x ∷ xs) (take_all xs index (omega (arith, all)))

pub not_at_all : {X : Type 0} (number : X → ℕ) (row : ℕ) (xs : List X) (index : ℕ) → length xs ≤ index → list_any (λ x. number x == row) (take index xs) ≡ false
    → false ≡ list_any (λ x. number x == row) xs
not_at_all number row xs index all none = sym none ∙ ap (λ xs. list_any (λ x. number x == row) xs) (take_all xs index all)

-- a row stands in a queue where it is that of some entry
pub is_any : {n : ℕ} (es : List (Entry n)) (row : ℕ) → list_any (λ e. e.row == row) es ≡ has_row es row
is_any [] row = refl
is_any (e ∷ es) row = ap (λ b. e.row == row || b) (is_any es row)
