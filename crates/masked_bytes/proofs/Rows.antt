-- The rows of entries, as they come, merge and go.
use Rattle.std.proofs.Common.{arith, ◌≡◌, ℕ, ◌==◌, Bool, true, false, List, [], ◌∷◌, ◌++◌, drop, refl, subst, cond, eqb, eqb-true}
use Rattle.std.proofs.lemmas.Bool.{or_from}
use Rattle.masked_bytes.{specs.Entries.{has_row, RowsApart, merged, laid_on}, specs.declared.entry.Entry.Entry, proofs.Truth.{neither_first, neither_second, differ_sym}}

module _ {n : ℕ} where
  -- a row that no entry has, and that doesn't come, is still none's
  pub lacks-push : (es : List (Entry n)) (x : Entry n) (r : ℕ) → has_row es r ≡ false → (x.row == r) ≡ false → has_row (es ++ x ∷ []) r ≡ false
  lacks-push [] x r h k = or_from (x.row == r) false k refl
  lacks-push (e ∷ es) x r h k = or_from (e.row == r) _ (neither_first (e.row == r) _ h) (lacks-push es x r (neither_second (e.row == r) _ h) k)

  pub lacks-drop : (es : List (Entry n)) (r : ℕ) → has_row es r ≡ false → has_row (drop 1 es) r ≡ false
  lacks-drop [] r h = refl
  lacks-drop (e ∷ es) r h = neither_second (e.row == r) _ h

  pub lacks-merged : (old row : ℕ) (bytes : List ℕ) (given : List Bool) (es : List (Entry n)) (r : ℕ)
      → has_row es r ≡ false → (row == r) ≡ false → has_row (merged old row bytes given es) r ≡ false
  lacks-merged old row bytes given [] r h k = refl
  lacks-merged old row bytes given (e ∷ es) r h k =
      elim (eqb e.row old) as (λ b. has_row (cond b (laid_on row bytes given e ∷ es) (e ∷ merged old row bytes given es)) r ≡ false) [
        | true ↦ or_from (row == r) _ k (neither_second (e.row == r) _ h)
        | false ↦ or_from (e.row == r) _ (neither_first (e.row == r) _ h) (lacks-merged old row bytes given es r (neither_second (e.row == r) _ h) k)
      ]

  -- entries whose rows are apart stay so where the new row is none of theirs
  pub apart-push : (es : List (Entry n)) (x : Entry n) → RowsApart es → has_row es x.row ≡ false → RowsApart (es ++ x ∷ [])
  apart-push [] x a h = (refl, tt)
  apart-push (e ∷ es) x a h = (
    lacks-push es x e.row a.0 (differ_sym e.row x.row (neither_first (e.row == x.row) _ h)),
    apart-push es x a.1 (neither_second (e.row == x.row) _ h),
  )

  pub apart-drop : (es : List (Entry n)) → RowsApart es → RowsApart (drop 1 es)
  apart-drop es a = grind arith

  pub apart-merged : (old row : ℕ) (bytes : List ℕ) (given : List Bool) (es : List (Entry n))
      → RowsApart es → has_row es row ≡ false → RowsApart (merged old row bytes given es)
  apart-merged old row bytes given [] a h = tt
  apart-merged old row bytes given (e ∷ es) a h =
      elim (eqb e.row old) as (λ b. RowsApart (cond b (laid_on row bytes given e ∷ es) (e ∷ merged old row bytes given es))) [
        | true ↦ (neither_second (e.row == row) _ h, a.1)
        | false ↦ (
          lacks-merged old row bytes given es e.row a.0 (differ_sym e.row row (neither_first (e.row == row) _ h)),
          apart-merged old row bytes given es a.1 (neither_second (e.row == row) _ h),
        )
      ]

  -- the entry of the old row is there no more
  pub lacks-old : (old row : ℕ) (bytes : List ℕ) (given : List Bool) (es : List (Entry n))
      → RowsApart es → (row == old) ≡ false → has_row (merged old row bytes given es) old ≡ false
  lacks-old old row bytes given [] a h = refl
  lacks-old old row bytes given (e ∷ es) a h =
      elim (eqb e.row old) as (λ b. eqb e.row old ≡ b → has_row (cond b (laid_on row bytes given e ∷ es) (e ∷ merged old row bytes given es)) old ≡ false) [
        | true ↦ λ is. or_from (row == old) _ h (subst (λ r. has_row es r ≡ false) (eqb-true e.row old is) a.0)
        | false ↦ λ is. or_from (e.row == old) _ is (lacks-old old row bytes given es a.1 h)
      ] refl
