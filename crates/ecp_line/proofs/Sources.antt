-- From which cell a bit is read.
use Rattle.std.proofs.Common.{◌≡◌, ◌≢◌, ℕ, zero, suc, ◌+◌, ◌*◌, ◌<◌, ◌≤◌, ◌⊎◌, Bool, true, false, cond, refl, sym, ap, ◌∙◌, subst, inl, inr, arith, eqb}
use Rattle.std.proofs.lemmas.Bool.{eqb-true, eqb-false, eq-eqb, ne_eqb, cases_eq, cases_order, cond-true, cond-false}
use Rattle.ecp_line.{specs.Layout.{source_below, pointer, pointer_cell, replacement_cell}, proofs.Places.{entry-order, replacement-same}}

-- where the source of a bit is: its own data cell, or the replacement cell of the last entry that points to it
pub data SourceCase (B : ℕ) (f : ℕ → Bool) (x k s : ℕ) : Type 0 where
  own : s ≡ x → ((i : ℕ) → i < k → x ≢ pointer B f i) → SourceCase B f x k s
  replaced : (i : ℕ) → i < k → s ≡ replacement_cell B i → x ≡ pointer B f i → ((h : ℕ) → i < h → h < k → x ≢ pointer B f h) → SourceCase B f x k s

-- an entry that points elsewhere leaves the source
passed : (B : ℕ) (f : ℕ → Bool) (x k s : ℕ) → x ≢ pointer B f k → SourceCase B f x k s → SourceCase B f x (suc k) s
passed B f x k s ne (own e none) = own e (λ i l. other i l (cases_eq i k))
  where
    other : (i : ℕ) → i < suc k → (i ≡ k) ⊎ (i ≢ k) → x ≢ pointer B f i
    other i l (inl e) = subst (λ (n : ℕ). x ≢ pointer B f n) (sym e) ne
    other i l (inr d) = none i (omega arith)
passed B f x k s ne (replaced i l e at last) = replaced i (omega arith) e at (λ h low high. other h low high (cases_eq h k))
  where
    other : (h : ℕ) → i < h → h < suc k → (h ≡ k) ⊎ (h ≢ k) → x ≢ pointer B f h
    other h low high (inl e) = subst (λ (n : ℕ). x ≢ pointer B f n) (sym e) ne
    other h low high (inr d) = last h low (omega arith)

pub source-case : (B : ℕ) (f : ℕ → Bool) (x k : ℕ) → SourceCase B f x k (source_below B f x k)
unfolding source_below
source-case B f x zero = own refl (λ i l. absurd (omega arith))
source-case B f x (suc k) = go (eqb x (pointer B f k)) refl (source-case B f x k)
  where
    go : (b : Bool) → eqb x (pointer B f k) ≡ b → SourceCase B f x k (source_below B f x k) → SourceCase B f x (suc k) (cond b (replacement_cell B k) (source_below B f x k))
    go true e before = replaced k (omega arith) refl (eqb-true x (pointer B f k) e) (λ h low high. absurd (omega arith))
    go false e before = passed B f x k (source_below B f x k) (eqb-false x (pointer B f k) e) before

pub source-passed : (B : ℕ) (f : ℕ → Bool) (x k : ℕ) → x ≢ pointer B f k → source_below B f x (k + 1) ≡ source_below B f x k
unfolding source_below
source-passed B f x k ne = let e : k + 1 ≡ suc k = omega arith in ap (λ (n : ℕ). source_below B f x n) e ∙ cond-false (eqb x (pointer B f k)) (replacement_cell B k) (source_below B f x k) (ne_eqb x (pointer B f k) ne)

pub source-replaced : (B : ℕ) (f : ℕ → Bool) (x k : ℕ) → x ≡ pointer B f k → source_below B f x (k + 1) ≡ replacement_cell B k
unfolding source_below
source-replaced B f x k e = let p : k + 1 ≡ suc k = omega arith in ap (λ (n : ℕ). source_below B f x n) p ∙ cond-true (eqb x (pointer B f k)) (replacement_cell B k) (source_below B f x k) (eq-eqb x (pointer B f k) e)

-- equal pointers give equal sources
pub source-same : (B : ℕ) (f g : ℕ → Bool) (x k : ℕ) → ((i : ℕ) → i < k → pointer B f i ≡ pointer B g i) → source_below B f x k ≡ source_below B g x k
unfolding source_below
source-same B f g x zero h = refl
source-same B f g x (suc k) h =
    let before = source-same B f g x k (λ i l. h i (omega arith)) in
    let at = h k (omega arith) in cc

-- two bits never share their source
pub source-apart : (B : ℕ) (f : ℕ → Bool) (x y k : ℕ) → x < 8 * B → y < 8 * B → source_below B f x k ≡ source_below B f y k → x ≡ y
source-apart B f x y k low high e = go _ _ (source-case B f x k) (source-case B f y k) e
  where
    go : (s t : ℕ) → SourceCase B f x k s → SourceCase B f y k t → s ≡ t → x ≡ y
    go s t (own a _) (own b _) e = omega arith
    go s t (own a _) (replaced i l b at last) e = absurd (omega arith)
    go s t (replaced i l a at last) (own b _) e = absurd (omega arith)
    go s t (replaced i l a at last) (replaced j m b to after) e =
        let same : i ≡ j = replacement-same B i j (omega arith) in
        at ∙ ap (λ (n : ℕ). pointer B f n) same ∙ sym to

-- a source stands before the entries that do not count
pub source-lt : (B : ℕ) (f : ℕ → Bool) (x k : ℕ) → x < 8 * B → source_below B f x k < pointer_cell B k
source-lt B f x k low = go _ (source-case B f x k)
  where
    go : (s : ℕ) → SourceCase B f x k s → s < pointer_cell B k
    go s (own e _) = omega arith
    go s (replaced i l e at last) = let t = entry-order B i k l in omega arith

-- and is no pointer cell
pub source-no_pointer : (B : ℕ) (f : ℕ → Bool) (x k i : ℕ) → x < 8 * B → pointer_cell B i ≤ source_below B f x k → replacement_cell B i ≤ source_below B f x k
source-no_pointer B f x k i low h = go _ (source-case B f x k) h
  where
    go : (s : ℕ) → SourceCase B f x k s → pointer_cell B i ≤ s → replacement_cell B i ≤ s
    go s (own e _) h = absurd (omega arith)
    go s (replaced j l e at last) h =
        elim (cases_order i j) as (λ _. replacement_cell B i ≤ s) [
          | inl same ↦ let p = ap (λ (n : ℕ). replacement_cell B n) same in omega arith
          | inr (inl less) ↦ let t = entry-order B i j less in omega arith
          | inr (inr more) ↦ let t = entry-order B j i more in absurd (omega arith)
        ]

pub source-none : (B : ℕ) (f : ℕ → Bool) (x : ℕ) → source_below B f x 0 ≡ x
unfolding source_below
source-none B f x = refl
