-- The entry of a row, with its line, and whether one of that line stands behind it.
use Rattle.std.proofs.Common.{arith, ◌≡◌, ℕ, ◌==◌, ◌||◌, ◌&&◌, ◌⊎◌, inl, inr, not, Bool, true, false, List, [], ◌∷◌, ◌++◌, Option, Some, None, refl, sym, ap, ◌∙◌, subst, cond, eqb, eqb-true}
use Rattle.std.{specs.Prelude.length, proofs.lemmas.Bool.{eq-eqb, or_left, or_right}}
use Rattle.masked_bytes.specs.{Entries.{has_row, RowsApart, merged, laid_on, newest_row, candidate, or_this}, declared.entry.Entry.Entry}
use Rattle.bank_shape.specs.declared.BankShape.{BankShape}
use Rattle.bank_shape.specs.declared.answer.WriteAnswer.TheVariants as wrote
use Rattle.bank_model.specs.{Answers.{head_busy_after, accept_answer, write_answer}, Events.BankEvent, History.{begun, queue, has_exhausted}}
use Rattle.bank_laws.{specs.Pairs.has_line, proofs.Answering.newest_row-there, proofs.Pairs.{line-merged, no_candidate-rest}}

no_row : {A : Type 0} (a row : ℕ) → (a == row) ≡ false → a ≡ row → A
no_row a row ne is = absurd (cc (ne, eq-eqb a row is))

module _ {n : ℕ} where
  -- an entry with this row and line stands
  abbrev pub Stands : List (Entry n) → ℕ → ℕ → Type 0
  Stands [] row line = ⊥
  Stands (e ∷ es) row line = ((e.row ≡ row) × (e.line ≡ line)) ⊎ Stands es row line

  -- and one of its line stands behind it
  abbrev pub Covered : List (Entry n) → ℕ → ℕ → Type 0
  Covered [] row line = ⊥
  Covered (e ∷ es) row line = ((e.row ≡ row) × (e.line ≡ line) × (has_line es line ≡ true)) ⊎ Covered es row line

  pub covered-stands : (es : List (Entry n)) (row line : ℕ) → Covered es row line → Stands es row line
  covered-stands [] row line c = c
  covered-stands (e ∷ es) row line (inl c) = inl (c.0, c.1)
  covered-stands (e ∷ es) row line (inr c) = inr (covered-stands es row line c)

  pub stands-row : (es : List (Entry n)) (row line : ℕ) → Stands es row line → has_row es row ≡ true
  stands-row [] row line s = absurd s
  stands-row (e ∷ es) row line (inl s) = or_left (e.row == row) _ (eq-eqb e.row row s.0)
  stands-row (e ∷ es) row line (inr s) = or_right (e.row == row) _ (stands-row es row line s)

  pub stands-line : (es : List (Entry n)) (row line : ℕ) → Stands es row line → has_line es line ≡ true
  stands-line [] row line s = absurd s
  stands-line (e ∷ es) row line (inl s) = or_left (e.line == line) _ (eq-eqb e.line line s.1)
  stands-line (e ∷ es) row line (inr s) = or_right (e.line == line) _ (stands-line es row line s)

  -- a row stands once, so it has one line
  pub stands-one : (es : List (Entry n)) (row a b : ℕ) → RowsApart es → Stands es row a → Stands es row b → a ≡ b
  stands-one [] row a b apart s t = absurd s
  stands-one (e ∷ es) row a b apart (inl s) (inl t) = sym s.1 ∙ t.1
  stands-one (e ∷ es) row a b apart (inl s) (inr t) = absurd (cc (subst (λ r. has_row es r ≡ false) s.0 apart.0, stands-row es row b t))
  stands-one (e ∷ es) row a b apart (inr s) (inl t) = absurd (cc (subst (λ r. has_row es r ≡ false) t.0 apart.0, stands-row es row a s))
  stands-one (e ∷ es) row a b apart (inr s) (inr t) = stands-one es row a b apart.1 s t

  -- New entries

  pub stands-push : (es : List (Entry n)) (x : Entry n) (row line : ℕ) → Stands es row line → Stands (es ++ x ∷ []) row line
  stands-push [] x row line s = absurd s
  stands-push (e ∷ es) x row line (inl s) = inl s
  stands-push (e ∷ es) x row line (inr s) = inr (stands-push es x row line s)

  pub stands-new : (es : List (Entry n)) (x : Entry n) → Stands (es ++ x ∷ []) x.row x.line
  stands-new [] x = inl (refl, refl)
  stands-new (e ∷ es) x = inr (stands-new es x)

  line-push : (es : List (Entry n)) (x : Entry n) (line : ℕ) → has_line es line ≡ true → has_line (es ++ x ∷ []) line ≡ true
  line-push [] x line h = absurd (cc)
  line-push (e ∷ es) x line h = by (e.line == line) (λ k. line-push es x line k) h
    where
      by : (b : Bool) → (has_line es line ≡ true → has_line (es ++ x ∷ []) line ≡ true) → (b || has_line es line) ≡ true → (b || has_line (es ++ x ∷ []) line) ≡ true
      by true go h = refl
      by false go h = go h

  pub covered-push : (es : List (Entry n)) (x : Entry n) (row line : ℕ) → Covered es row line → Covered (es ++ x ∷ []) row line
  covered-push [] x row line c = absurd c
  covered-push (e ∷ es) x row line (inl c) = inl (c.0, c.1, line-push es x line c.2)
  covered-push (e ∷ es) x row line (inr c) = inr (covered-push es x row line c)

  pub covered-new : (es : List (Entry n)) (x : Entry n) (row line : ℕ) → x.line ≡ line → Stands es row line → Covered (es ++ x ∷ []) row line
  covered-new [] x row line is s = absurd s
  covered-new (e ∷ es) x row line is (inl s) = inl (s.0, s.1, stands-line (es ++ x ∷ []) x.row line (subst (λ l. Stands (es ++ x ∷ []) x.row l) is (stands-new es x)))
  covered-new (e ∷ es) x row line is (inr s) = inr (covered-new es x row line is s)

  -- Begun entries

  pub stands-begun : (due : Option ℕ) (f : ℕ → List ℕ) (es : List (Entry n)) (row line : ℕ) → Stands es row line → Stands (begun due f es) row line
  stands-begun due f es row line s = grind arith

  pub covered-begun : (due : Option ℕ) (f : ℕ → List ℕ) (es : List (Entry n)) (row line : ℕ) → Covered es row line → Covered (begun due f es) row line
  covered-begun due f es row line s = grind arith

  -- The head goes

  pub stands-rest : (e : Entry n) (es : List (Entry n)) (row line : ℕ) → (e.row == row) ≡ false → Stands (e ∷ es) row line → Stands es row line
  stands-rest e es row line ne (inl s) = no_row e.row row ne s.0
  stands-rest e es row line ne (inr s) = s

  pub covered-rest : (e : Entry n) (es : List (Entry n)) (row line : ℕ) → (e.row == row) ≡ false → Covered (e ∷ es) row line → Covered es row line
  covered-rest e es row line ne (inl c) = no_row e.row row ne c.0
  covered-rest e es row line ne (inr c) = c

  -- Merged entries

  pub stands-merged : (old new : ℕ) (bytes : List ℕ) (given : List Bool) (es : List (Entry n)) (row line : ℕ) → (old == row) ≡ false → Stands es row line → Stands (merged old new bytes given es) row line
  stands-merged old new bytes given [] row line ne s = absurd s
  stands-merged old new bytes given (e ∷ es) row line ne s = by (eqb e.row old) refl (λ t. stands-merged old new bytes given es row line ne t) s
    where
      by : (b : Bool) → eqb e.row old ≡ b → (Stands es row line → Stands (merged old new bytes given es) row line) → Stands (e ∷ es) row line
          → Stands (cond b (laid_on new bytes given e ∷ es) (e ∷ merged old new bytes given es)) row line
      by true is go (inl s) = no_row old row ne (sym (eqb-true e.row old is) ∙ s.0)
      by true is go (inr s) = inr s
      by false is go (inl s) = inl s
      by false is go (inr s) = inr (go s)

  pub covered-merged : (old new : ℕ) (bytes : List ℕ) (given : List Bool) (es : List (Entry n)) (row line : ℕ) → (old == row) ≡ false → Covered es row line → Covered (merged old new bytes given es) row line
  covered-merged old new bytes given [] row line ne c = absurd c
  covered-merged old new bytes given (e ∷ es) row line ne c = by (eqb e.row old) refl (λ t. covered-merged old new bytes given es row line ne t) c
    where
      by : (b : Bool) → eqb e.row old ≡ b → (Covered es row line → Covered (merged old new bytes given es) row line) → Covered (e ∷ es) row line
          → Covered (cond b (laid_on new bytes given e ∷ es) (e ∷ merged old new bytes given es)) row line
      by true is go (inl c) = no_row old row ne (sym (eqb-true e.row old is) ∙ c.0)
      by true is go (inr c) = inr c
      by false is go (inl c) = inl (c.0, c.1, line-merged old new bytes given es line ∙ c.2)
      by false is go (inr c) = inr (go c)

  -- the new row stands in the place of the old one, with its line
  pub merged-new : (old new : ℕ) (bytes : List ℕ) (given : List Bool) (es : List (Entry n)) (line : ℕ) → RowsApart es → Stands es old line → Stands (merged old new bytes given es) new line
  merged-new old new bytes given [] line apart s = absurd s
  merged-new old new bytes given (e ∷ es) line apart s = by (eqb e.row old) refl (λ t. merged-new old new bytes given es line apart.1 t) s
    where
      by : (b : Bool) → eqb e.row old ≡ b → (Stands es old line → Stands (merged old new bytes given es) new line) → Stands (e ∷ es) old line
          → Stands (cond b (laid_on new bytes given e ∷ es) (e ∷ merged old new bytes given es)) new line
      by true is go (inl s) = inl (refl, s.1)
      by true is go (inr s) = absurd (cc (subst (λ r. has_row es r ≡ false) (eqb-true e.row old is) apart.0, stands-row es old line s))
      by false is go (inl s) = no_row e.row old is s.0
      by false is go (inr s) = inr (go s)

  -- Which entry a write merges into

  pub newest-line : (es : List (Entry n)) (line : ℕ) → newest_row es line ≡ None → has_line es line ≡ false
  newest-line es line none = no_candidate-rest es line None (ap (λ o. or_this o None) none)

  pub newest-stands : (es : List (Entry n)) (line at : ℕ) → newest_row es line ≡ Some at → Stands es at line
  newest-stands [] line at h = absurd (cc)
  newest-stands (e ∷ es) line at h = by (newest_row es line) (λ is. newest-stands es line at is) refl h
    where
      own : (b : Bool) → eqb e.line line ≡ b → cond b (Some e.row) None ≡ Some at → Stands (e ∷ es) at line
      own true is h = let same : e.row ≡ at = cc in inl (same, eqb-true e.line line is)
      own false is h = absurd (cc)

      by : (r : Option ℕ) → (newest_row es line ≡ Some at → Stands es at line) → newest_row es line ≡ r → or_this r (cond (eqb e.line line) (Some e.row) None) ≡ Some at → Stands (e ∷ es) at line
      by (Some row) rest is h = inr (rest (is ∙ h))
      by None rest is h = own (eqb e.line line) refl h

  candidate-stands : (busy : Bool) (es : List (Entry n)) (line at : ℕ) → candidate busy es line ≡ Some at → Stands es at line
  candidate-stands busy [] line at h = absurd (cc)
  candidate-stands busy (e ∷ es) line at h = by (newest_row es line) refl h
    where
      own : (busy b : Bool) → eqb e.line line ≡ b → cond (not busy && b) (Some e.row) None ≡ Some at → Stands (e ∷ es) at line
      own false true is h = let same : e.row ≡ at = cc in inl (same, eqb-true e.line line is)
      own _ _ is h = absurd (cc)

      by : (r : Option ℕ) → newest_row es line ≡ r → or_this r (cond (not busy && eqb e.line line) (Some e.row) None) ≡ Some at → Stands (e ∷ es) at line
      by (Some row) is h = inr (newest-stands es line at (is ∙ h))
      by None is h = own busy (eqb e.line line) refl h

  -- an entry of another row is not the one that is found
  own-other : {A : Type 0} (e : Entry n) (at row : ℕ) → (at == row) ≡ false → (b : Bool)
      → cond b (Some e.row) None ≡ Some at → e.row ≡ row → A
  own-other e at row ne true h is = let same : e.row ≡ at = cc in no_row at row ne (sym same ∙ is)
  own-other e at row ne false h is = absurd (cc)

  -- it is the newest of its line: another stands before it
  newest-covers : (es : List (Entry n)) (line at row : ℕ) → newest_row es line ≡ Some at → (at == row) ≡ false → Stands es row line → Covered es row line
  newest-covers [] line at row h ne s = absurd s
  newest-covers (e ∷ es) line at row h ne s = by (newest_row es line) (λ is t. newest-covers es line at row is ne t) refl h s
    where
      by : (r : Option ℕ) → (newest_row es line ≡ Some at → Stands es row line → Covered es row line) → newest_row es line ≡ r
          → or_this r (cond (eqb e.line line) (Some e.row) None) ≡ Some at → Stands (e ∷ es) row line → Covered (e ∷ es) row line
      by (Some other) rest is h (inl s) = inl (s.0, s.1, stands-line es at line (newest-stands es line at (is ∙ h)))
      by (Some other) rest is h (inr s) = inr (rest (is ∙ h) s)
      by None rest is h (inl s) = own-other e at row ne (eqb e.line line) h s.0
      by None rest is h (inr s) = absurd (cc (newest-line es line is, stands-line es row line s))

  candidate-covers : (busy : Bool) (es : List (Entry n)) (line at row : ℕ) → candidate busy es line ≡ Some at → (at == row) ≡ false → Stands es row line → Covered es row line
  candidate-covers busy [] line at row h ne s = absurd s
  candidate-covers busy (e ∷ es) line at row h ne s = by (newest_row es line) refl h s
    where
      by : (r : Option ℕ) → newest_row es line ≡ r
          → or_this r (cond (not busy && eqb e.line line) (Some e.row) None) ≡ Some at → Stands (e ∷ es) row line → Covered (e ∷ es) row line
      by (Some other) is h (inl s) = inl (s.0, s.1, stands-line es at line (newest-stands es line at (is ∙ h)))
      by (Some other) is h (inr s) = inr (newest-covers es line at row (is ∙ h) ne s)
      by None is h (inl s) = own-other e at row ne (not busy && eqb e.line line) h s.0
      by None is h (inr s) = absurd (cc (newest-line es line is, stands-line es row line s))

  covered-line : (es : List (Entry n)) (row line : ℕ) → Covered es row line → has_line es line ≡ true
  covered-line es row line c = stands-line es row line (covered-stands es row line c)

  -- and one with another behind it is not it
  newest-uncovered : (es : List (Entry n)) (line row : ℕ) → RowsApart es → newest_row es line ≡ Some row → Covered es row line → ⊥
  newest-uncovered [] line row apart h c = c
  newest-uncovered (e ∷ es) line row apart h c = by (newest_row es line) (λ is t. newest-uncovered es line row apart.1 is t) refl h c
    where
      by : (r : Option ℕ) → (newest_row es line ≡ Some row → Covered es row line → ⊥) → newest_row es line ≡ r
          → or_this r (cond (eqb e.line line) (Some e.row) None) ≡ Some row → Covered (e ∷ es) row line → ⊥
      by (Some other) rest is h (inl c) = absurd (cc (subst (λ r. has_row es r ≡ false) c.0 apart.0, newest_row-there es line row (is ∙ h)))
      by (Some other) rest is h (inr c) = rest (is ∙ h) c
      by None rest is h (inl c) = absurd (cc (newest-line es line is, c.2))
      by None rest is h (inr c) = absurd (cc (newest-line es line is, covered-line es row line c))

  candidate-uncovered : (busy : Bool) (es : List (Entry n)) (line row : ℕ) → RowsApart es → candidate busy es line ≡ Some row → Covered es row line → ⊥
  candidate-uncovered busy [] line row apart h c = c
  candidate-uncovered busy (e ∷ es) line row apart h c = by (newest_row es line) refl h c
    where
      by : (r : Option ℕ) → newest_row es line ≡ r
          → or_this r (cond (not busy && eqb e.line line) (Some e.row) None) ≡ Some row → Covered (e ∷ es) row line → ⊥
      by (Some other) is h (inl c) = absurd (cc (subst (λ r. has_row es r ≡ false) c.0 apart.0, newest_row-there es line row (is ∙ h)))
      by (Some other) is h (inr c) = newest-uncovered es line row apart.1 (is ∙ h) c
      by None is h (inl c) = absurd (cc (newest-line es line is, c.2))
      by None is h (inr c) = absurd (cc (newest-line es line is, covered-line es row line c))

  -- Of the answer to a write

  pub merged-candidate : (shape : BankShape) (h : List (BankEvent n)) (line old : ℕ) → wrote.Merged old ≡ write_answer shape h line → candidate (head_busy_after shape h) (queue shape h) line ≡ Some old
  merged-candidate shape h line old m = by (has_exhausted h) (candidate (head_busy_after shape h) (queue shape h) line) m
    where
      full : (b : Bool) (c : Option ℕ) → wrote.Merged old ≡ cond b wrote.Full wrote.Accepted → c ≡ Some old
      full b c m = grind arith

      by : (b : Bool) (c : Option ℕ) → wrote.Merged old ≡ cond b wrote.Exhausted (accept_answer shape h c) → c ≡ Some old
      by true c m = absurd (cc)
      by false None m = full (eqb (length (queue shape h)) shape.writes) None m
      by false (Some at) m = let same : old ≡ at = cc in ap Some (sym same)

  module _ (shape : BankShape) (h : List (BankEvent n)) (line old : ℕ) (m : wrote.Merged old ≡ write_answer shape h line) where
    pub merges-stands : Stands (queue shape h) old line
    merges-stands = candidate-stands (head_busy_after shape h) (queue shape h) line old (merged-candidate shape h line old m)

    pub merges-covers : (row : ℕ) → (old == row) ≡ false → Stands (queue shape h) row line → Covered (queue shape h) row line
    merges-covers row ne s = candidate-covers (head_busy_after shape h) (queue shape h) line old row (merged-candidate shape h line old m) ne s

    pub merges-uncovered : RowsApart (queue shape h) → Covered (queue shape h) old line → ⊥
    merges-uncovered apart c = candidate-uncovered (head_busy_after shape h) (queue shape h) line old apart (merged-candidate shape h line old m) c
