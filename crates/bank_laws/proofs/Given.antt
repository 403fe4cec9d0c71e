-- Which bytes the queue's entries of a line give, through each change of the queue.
use Rattle.std.proofs.Common.{◌≡◌, ℕ, ◌==◌, ◌⊎◌, inl, inr, Bool, true, false, List, [], ◌∷◌, ◌++◌, Option, Some, None, length, refl, sym, ap, ◌∙◌, subst, cond, eqb, eq-eqb, eqb-true}
use Rattle.std.proofs.lemmas.List.{length-replicate}
use Rattle.masked_bytes.specs.{Entries.{layer_of, stacked, layer_by, newest_row, or_this, merged, laid_on, has_row, RowsApart}, Masked.{joined, none_given}}
use Rattle.masked_bytes.{specs.declared.entry.Entry.Entry, proofs.Layering.{length-joined, joined-none_given, joined-none_right, joined-joined}}
use Rattle.masked_bytes.proofs.Truth.{neither_first, neither_second}
use Rattle.bank_laws.{specs.Pairs.has_line, proofs.Answering.newest_row-there, proofs.Lines.{Stands, stands-row, newest-line}, proofs.Pairs.AllLong}

module _ {n : ℕ} where
  -- the bytes that the entries of a line give
  abbrev pub given_of : List (Entry n) → ℕ → List Bool
  given_of [] line = none_given n
  given_of (e ∷ es) line = cond (e.line == line) (joined (given_of es line) e.given) (given_of es line)

  pub given-layer : (es : List (Entry n)) (line : ℕ) → (layer_of es line).given ≡ given_of es line
  given-layer [] line = refl
  given-layer (e ∷ es) line = by (e.line == line) (given-layer es line)
    where
      by : (b : Bool) → (layer_of es line).given ≡ given_of es line → (cond b (stacked (layer_of es line) (layer_by e)) (layer_of es line)).given ≡ cond b (joined (given_of es line) e.given) (given_of es line)
      by true same = ap (λ given. joined given e.given) same
      by false same = same

  pub length-given : (es : List (Entry n)) (line : ℕ) → AllLong es → length (given_of es line) ≡ n
  length-given [] line long = length-replicate n false
  length-given (e ∷ es) line long = by (e.line == line) (length-given es line long.1)
    where
      by : (b : Bool) → length (given_of es line) ≡ n → length (cond b (joined (given_of es line) e.given) (given_of es line)) ≡ n
      by true same = length-joined (given_of es line) e.given (same ∙ sym long.0) ∙ long.0
      by false same = same

  pub given-lacks : (es : List (Entry n)) (line : ℕ) → has_line es line ≡ false → given_of es line ≡ none_given n
  given-lacks [] line lacks = refl
  given-lacks (e ∷ es) line lacks =
      ap (λ b. cond b (joined (given_of es line) e.given) (given_of es line)) (neither_first (e.line == line) _ lacks) ∙ given-lacks es line (neither_second (e.line == line) _ lacks)

  -- by whether the first entry has the line
  pub given-own : (e : Entry n) (es : List (Entry n)) (line : ℕ) → (e.line == line) ≡ true → given_of (e ∷ es) line ≡ joined (given_of es line) e.given
  given-own e es line is = ap (λ b. cond b (joined (given_of es line) e.given) (given_of es line)) is

  pub given-other : (e : Entry n) (es : List (Entry n)) (line : ℕ) → (e.line == line) ≡ false → given_of (e ∷ es) line ≡ given_of es line
  given-other e es line is = ap (λ b. cond b (joined (given_of es line) e.given) (given_of es line)) is

  -- one entry alone
  pub given-alone : (e : Entry n) (es : List (Entry n)) (line : ℕ) → AllLong (e ∷ es) → (e.line == line) ≡ true → has_line es line ≡ false → given_of (e ∷ es) line ≡ e.given
  given-alone e es line l is none = given-own e es line is ∙ ap (λ g. joined g e.given) (given-lacks es line none) ∙ joined-none_given n e.given l.0

  -- more over an entry's bytes, or over those behind it
  more_under : (b : Bool) (given top below : List Bool) (e : Entry n) → length given ≡ n → length below ≡ n → length e.given ≡ n → top ≡ joined given below
      → cond b (joined top e.given) top ≡ joined given (cond b (joined below e.given) below)
  more_under true given top below e g k l same = ap (λ xs. joined xs e.given) same ∙ joined-joined given below e.given (k ∙ sym g) (l ∙ sym g)
  more_under false given top below e g k l same = same

  -- a new entry of the line gives more, and of another line nothing
  pub given-push : (es : List (Entry n)) (x : Entry n) (line : ℕ) → AllLong es → length x.given ≡ n → (x.line == line) ≡ true → given_of (es ++ x ∷ []) line ≡ joined x.given (given_of es line)
  given-push [] x line long len own =
      ap (λ b. cond b (joined (none_given n) x.given) (none_given n)) own ∙ joined-none_given n x.given len ∙ sym (joined-none_right n x.given len)
  given-push (e ∷ es) x line long len own =
      more_under (e.line == line) x.given (given_of (es ++ x ∷ []) line) (given_of es line) e len (length-given es line long.1) long.0 (given-push es x line long.1 len own)

  pub given-push_other : (es : List (Entry n)) (x : Entry n) (line : ℕ) → (x.line == line) ≡ false → given_of (es ++ x ∷ []) line ≡ given_of es line
  given-push_other [] x line other = ap (λ b. cond b (joined (none_given n) x.given) (none_given n)) other
  given-push_other (e ∷ es) x line other = ap (λ given. cond (e.line == line) (joined given e.given) given) (given-push_other es x line other)

  -- the newest entry of a line is the head, and no other is of the line, or stands behind it
  abbrev pub NewestOf : Entry n → List (Entry n) → ℕ → ℕ → Type 0
  NewestOf e es line old =
      ((eqb e.row old ≡ true) × (eqb e.line line ≡ true) × (has_line es line ≡ false)) ⊎ ((eqb e.row old ≡ false) × (newest_row es line ≡ Some old))

  pub newest-of : (e : Entry n) (es : List (Entry n)) (line old : ℕ) → RowsApart (e ∷ es) → newest_row (e ∷ es) line ≡ Some old → NewestOf e es line old
  newest-of e es line old apart is = by (newest_row es line) refl is
    where
      own : (b : Bool) → eqb e.line line ≡ b → has_line es line ≡ false → cond b (Some e.row) None ≡ Some old → NewestOf e es line old
      own true at lacks is = let same : e.row ≡ old = cc in inl (eq-eqb e.row old same, at, lacks)
      own false at lacks is = absurd (cc)

      behind : (b : Bool) → eqb e.row old ≡ b → newest_row es line ≡ Some old → NewestOf e es line old
      behind true same there =
          absurd (cc (subst (λ r. has_row es r ≡ false) (eqb-true e.row old same) apart.0, newest_row-there es line old there))
      behind false other there = inr (other, there)

      by : (r : Option ℕ) → newest_row es line ≡ r → or_this r (cond (eqb e.line line) (Some e.row) None) ≡ Some old → NewestOf e es line old
      by (Some row) there is = behind (eqb e.row old) refl (there ∙ is)
      by None none is = own (eqb e.line line) refl (newest-line es line none) is

  pub given-merged : (old row : ℕ) (bytes : List ℕ) (given : List Bool) (es : List (Entry n)) (line : ℕ) → AllLong es → length given ≡ n → RowsApart es → newest_row es line ≡ Some old
      → given_of (merged old row bytes given es) line ≡ joined given (given_of es line)
  given-merged old row bytes given [] line long len apart is = absurd (cc)
  given-merged old row bytes given (e ∷ es) line long len apart is =
      by (newest-of e es line old apart is) (λ there. given-merged old row bytes given es line long.1 len apart.1 there)
    where
      head : (b : Bool) → b ≡ true → given_of es line ≡ none_given n
          → cond b (joined (given_of es line) (joined given e.given)) (given_of es line) ≡ joined given (cond b (joined (given_of es line) e.given) (given_of es line))
      head false own none = absurd (cc)
      head true own none =
          let size : length (joined given e.given) ≡ n = length-joined given e.given (len ∙ sym long.0) ∙ long.0 in
          ap (λ xs. joined xs (joined given e.given)) none ∙ joined-none_given n (joined given e.given) size
          ∙ ap (λ xs. joined given xs) (sym (ap (λ xs. joined xs e.given) none ∙ joined-none_given n e.given long.0))

      by : NewestOf e es line old → (newest_row es line ≡ Some old → given_of (merged old row bytes given es) line ≡ joined given (given_of es line))
          → given_of (cond (eqb e.row old) (laid_on row bytes given e ∷ es) (e ∷ merged old row bytes given es)) line ≡ joined given (given_of (e ∷ es) line)
      by (inl is) rest =
          ap (λ b. given_of (cond b (laid_on row bytes given e ∷ es) (e ∷ merged old row bytes given es)) line) is.0
          ∙ head (eqb e.line line) is.1 (given-lacks es line is.2)
      by (inr is) rest =
          ap (λ b. given_of (cond b (laid_on row bytes given e ∷ es) (e ∷ merged old row bytes given es)) line) is.0
          ∙ more_under (e.line == line) given (given_of (merged old row bytes given es) line) (given_of es line) e len (length-given es line long.1) long.0 (rest is.1)

  pub given-merged_other : (old row : ℕ) (bytes : List ℕ) (given : List Bool) (es : List (Entry n)) (into line : ℕ) → RowsApart es → Stands es old into → (into == line) ≡ false
      → given_of (merged old row bytes given es) line ≡ given_of es line
  given-merged_other old row bytes given [] into line apart s ne = absurd s
  given-merged_other old row bytes given (e ∷ es) into line apart s ne = by (eqb e.row old) refl s (λ t. given-merged_other old row bytes given es into line apart.1 t ne)
    where
      by : (b : Bool) → eqb e.row old ≡ b → Stands (e ∷ es) old into → (Stands es old into → given_of (merged old row bytes given es) line ≡ given_of es line)
          → given_of (cond b (laid_on row bytes given e ∷ es) (e ∷ merged old row bytes given es)) line ≡ given_of (e ∷ es) line
      by true is (inl s) go = let other : (e.line == line) ≡ false = subst (λ k. (k == line) ≡ false) (sym s.1) ne in given-other (laid_on row bytes given e) es line other ∙ sym (given-other e es line other)
      by true is (inr s) go = absurd (cc (subst (λ r. has_row es r ≡ false) (eqb-true e.row old is) apart.0, stands-row es old into s))
      by false is (inl s) go = absurd (cc (is, eq-eqb e.row old s.0))
      by false is (inr s) go = ap (λ k. cond (e.line == line) (joined k e.given) k) (go s)
