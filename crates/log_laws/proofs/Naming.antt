-- The row of each of the queue's entries is that of a write of its line.
use Rattle.std.proofs.Common.{◌≡◌, ℕ, ◌<◌, ◌≤◌, ◌==◌, inl, inr, Bool, false, List, [], ◌∷◌, ◌++◌, Option, Some, drop, sym, ap, ◌∙◌, subst, arith, cond, eqb, eqb-true, eq-eqb, refl}
use Rattle.masked_bytes.specs.{Entries.{newest_row, merged, laid_on, has_row, RowsApart}, declared.entry.Entry.Entry}
use Rattle.masked_bytes.proofs.Truth.{neither_first, neither_second, differ_sym}
use Rattle.bank_shape.specs.declared.answer.WriteAnswer.{WriteAnswer}
use Rattle.bank_model.specs.{Events.{BankEvent, Write, Read, RowsBelow, line_of_row, up_to}, History.begun}
use Rattle.bank_laws.proofs.{Entries.differ_back, Given.{NewestOf, newest-of}}

module _ {n : ℕ} where
  -- the row of each entry has the entry's line
  abbrev pub Named : (ℕ → ℕ) → List (Entry n) → Type 0
  Named f [] = Unit {0}
  Named f (e ∷ es) = (f e.row ≡ e.line) × Named f es

  pub named-push : (f : ℕ → ℕ) (es : List (Entry n)) (x : Entry n) → Named f es → f x.row ≡ x.line → Named f (es ++ x ∷ [])
  named-push f [] x k is = (is, tt)
  named-push f (e ∷ es) x k is = (k.0, named-push f es x k.1 is)

  pub named-drop : (f : ℕ → ℕ) (es : List (Entry n)) → Named f es → Named f (drop 1 es)
  named-drop f es k = grind arith

  pub named-begun : (f : ℕ → ℕ) (due : Option ℕ) (g : ℕ → List ℕ) (es : List (Entry n)) → Named f es → Named f (begun due g es)
  named-begun f due g es k = grind arith

  -- a write of another row leaves them so
  pub named-too : (f : ℕ → ℕ) (row line : ℕ) (es : List (Entry n)) → has_row es row ≡ false → Named f es → Named (λ r. cond (row == r) line (f r)) es
  named-too f row line [] lacks k = tt
  named-too f row line (e ∷ es) lacks k = (
    ap (λ b. cond b line (f e.row)) (differ_sym e.row row (neither_first (e.row == row) _ lacks)) ∙ k.0,
    named-too f row line es (neither_second (e.row == row) _ lacks) k.1,
  )

  pub named-merged : (f : ℕ → ℕ) (of at row : ℕ) (bytes : List ℕ) (given : List Bool) (es : List (Entry n)) → RowsApart es → newest_row es of ≡ Some at → f row ≡ of → Named f es → Named f (merged at row bytes given es)
  named-merged f of at row bytes given [] apart is new k = tt
  named-merged f of at row bytes given (e ∷ es) apart is new k =
      by (newest-of e es of at apart is) (λ there. named-merged f of at row bytes given es apart.1 there new k.1)
    where
      by : NewestOf e es of at → (newest_row es of ≡ Some at → Named f (merged at row bytes given es)) → Named f (cond (eqb e.row at) (laid_on row bytes given e ∷ es) (e ∷ merged at row bytes given es))
      by (inl j) rest =
          subst (λ b. Named f (cond b (laid_on row bytes given e ∷ es) (e ∷ merged at row bytes given es))) (sym j.0) (new ∙ sym (eqb-true e.line of j.1), k.1)
      by (inr j) rest =
          subst (λ b. Named f (cond b (laid_on row bytes given e ∷ es) (e ∷ merged at row bytes given es))) (sym j.0) (k.0, rest j.1)

  -- A write among others whose rows rise

  pub row-below : (pre : List (BankEvent n)) (row line : ℕ) (bytes : List ℕ) (given : List Bool) (answer : WriteAnswer) (h : List (BankEvent n)) (bound : ℕ) → RowsBelow (pre ++ Write row line bytes given answer ∷ h) bound → row < bound
  row-below [] row line bytes given answer h bound below = below.0
  row-below (Write at to some which how ∷ pre) row line bytes given answer h bound below = let lt : row < at = row-below pre row line bytes given answer h at below.1 in let up : at < bound = below.0 in omega arith
  row-below (Read at to how ∷ pre) row line bytes given answer h bound below = let lt : row < at = row-below pre row line bytes given answer h at below.1 in let up : at < bound = below.0 in omega arith
  row-below (_ ∷ pre) row line bytes given answer h bound below = row-below pre row line bytes given answer h bound below

  pub line-kept : (pre : List (BankEvent n)) (row line : ℕ) (bytes : List ℕ) (given : List Bool) (answer : WriteAnswer) (h : List (BankEvent n)) (bound : ℕ) → RowsBelow (pre ++ Write row line bytes given answer ∷ h) bound
      → line_of_row row (pre ++ Write row line bytes given answer ∷ h) ≡ line
  line-kept [] row line bytes given answer h bound below = ap (λ b. cond b line (line_of_row row h)) (eq-eqb row row refl)
  line-kept (Write at to some which how ∷ pre) row line bytes given answer h bound below =
      ap (λ b. cond b to (line_of_row row (pre ++ Write row line bytes given answer ∷ h))) (differ_back row at (row-below pre row line bytes given answer h at below.1))
      ∙ line-kept pre row line bytes given answer h at below.1
  line-kept (Read at to how ∷ pre) row line bytes given answer h bound below = line-kept pre row line bytes given answer h at below.1
  line-kept (_ ∷ pre) row line bytes given answer h bound below = line-kept pre row line bytes given answer h bound below

  pub up_to-kept : (pre : List (BankEvent n)) (row line : ℕ) (bytes : List ℕ) (given : List Bool) (answer : WriteAnswer) (h : List (BankEvent n)) (bound : ℕ) → RowsBelow (pre ++ Write row line bytes given answer ∷ h) bound
      → up_to row (pre ++ Write row line bytes given answer ∷ h) ≡ Write row line bytes given answer ∷ h
  up_to-kept [] row line bytes given answer h bound below = ap (λ b. cond b (Write row line bytes given answer ∷ h) (up_to row h)) (eq-eqb row row refl)
  up_to-kept (Write at to some which how ∷ pre) row line bytes given answer h bound below =
      ap (λ b. cond b (Write at to some which how ∷ pre ++ Write row line bytes given answer ∷ h) (up_to row (pre ++ Write row line bytes given answer ∷ h))) (differ_back row at (row-below pre row line bytes given answer h at below.1))
      ∙ up_to-kept pre row line bytes given answer h at below.1
  up_to-kept (Read at to how ∷ pre) row line bytes given answer h bound below = up_to-kept pre row line bytes given answer h at below.1
  up_to-kept (_ ∷ pre) row line bytes given answer h bound below = up_to-kept pre row line bytes given answer h bound below

  -- the rows of older events are below those of newer ones
  pub rows_below-end : (pre h : List (BankEvent n)) (bound : ℕ) → RowsBelow (pre ++ h) bound → (low : ℕ) × RowsBelow h low × (low ≤ bound)
  rows_below-end [] h bound below = (bound, below, omega arith)
  rows_below-end (Write at to some which how ∷ pre) h bound below = let k = rows_below-end pre h at below.1 in (k.0, k.1, let up : at < bound = below.0 in let le : k.0 ≤ at = k.2 in omega (arith, up, le))
  rows_below-end (Read at to how ∷ pre) h bound below = let k = rows_below-end pre h at below.1 in (k.0, k.1, let up : at < bound = below.0 in let le : k.0 ≤ at = k.2 in omega (arith, up, le))
  rows_below-end (_ ∷ pre) h bound below = rows_below-end pre h bound below
