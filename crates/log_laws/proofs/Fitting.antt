-- The queue's entries give of a line what its accepted writes give, down to the last that is out.
use Rattle.std.proofs.Common.{arith, ◌≡◌, ℕ, ◌==◌, ◌||◌, ◌⊎◌, inl, inr, Bool, true, false, List, [], ◌∷◌, ◌++◌, Option, Some, None, length, sym, ap, ◌∙◌, subst, cond, eqb, eqb-true, eq-eqb, refl}
use Rattle.std.proofs.lemmas.Bool.{or_from, or_left, or_right}
use Rattle.masked_bytes.specs.{Entries.{newest_row, merged, laid_on, has_row, RowsApart}, Masked.{joined, none_given, all_given, gives_all}, declared.entry.Entry.Entry}
use Rattle.masked_bytes.proofs.{Layering.{joined-all_given, gives_all-all_given}, Truth.{neither_first, neither_second}}
use Rattle.bank_model.specs.History.{begun}
use Rattle.bank_laws.{specs.Pairs.has_line, proofs.Given.{given_of, length-given, given-lacks, given-push, given-push_other, NewestOf, newest-of, given-merged, given-merged_other}}
use Rattle.bank_laws.proofs.{Lines.newest-stands, Pairs.{AllLong, gives_all-joined}}

-- these rows, and one more if so said
abbrev pub out_with : Bool → (ℕ → Bool) → ℕ → ℕ → Bool
out_with b out row = cond b (λ x. out x || row == x) out

pub out_with-not : (b : Bool) (out : ℕ → Bool) (row r : ℕ) → out r ≡ false → (row == r) ≡ false → out_with b out row r ≡ false
out_with-not true out row r h k = or_from (out r) (row == r) h k
out_with-not false out row r h k = h

pub out_with-kept : (b : Bool) (out : ℕ → Bool) (row r : ℕ) → out r ≡ true → out_with b out row r ≡ true
out_with-kept true out row r h = or_left (out r) (row == r) h
out_with-kept false out row r h = h

pub out_with-new : (b : Bool) (out : ℕ → Bool) (row : ℕ) → b ≡ true → out_with b out row row ≡ true
out_with-new true out row is = or_right (out row) (row == row) (eq-eqb row row refl)
out_with-new false out row is = absurd (cc)

-- what the writes of a line give, by the rows that are out
abbrev pub Uncovered : Type 0
Uncovered = (ℕ → Bool) → List Bool

-- one more write of the line, of this row
pub record Grows (n : ℕ) (new old : Uncovered) (row : ℕ) (given : List Bool) : Type 0 where
  pub more : (out : ℕ → Bool) → out row ≡ false → new out ≡ joined given (old out)
  pub gone : (out : ℕ → Bool) → out row ≡ true → new out ≡ none_given n

-- more laid over what fits
more_fits : (given before after old new : List Bool) → length given ≡ length before → after ≡ joined given before → new ≡ joined given old → (gives_all before ≡ true) ⊎ (before ≡ old) → (gives_all after ≡ true) ⊎ (after ≡ new)
more_fits given before after old new len is now (inl all) = inl (ap gives_all is ∙ gives_all-joined given before len all)
more_fits given before after old new len is now (inr same) = inr (is ∙ ap (joined given) same ∙ sym now)

module _ {n : ℕ} where
  -- each part of a queue behind some entries gives what the writes give once those entries are out
  abbrev pub Tails : Uncovered → (ℕ → Bool) → ℕ → List (Entry n) → Type 0
  Tails u out line [] = u out ≡ none_given n
  Tails u out line (e ∷ es) = (given_of (e ∷ es) line ≡ u out) × Tails u (out_with (e.line == line) out e.row) line es

  -- so do all its entries, or they give all bytes
  abbrev pub Fits : Uncovered → (ℕ → Bool) → ℕ → List (Entry n) → Type 0
  Fits u out line [] = u out ≡ none_given n
  Fits u out line (e ∷ es) =
      ((gives_all (given_of (e ∷ es) line) ≡ true) ⊎ (given_of (e ∷ es) line ≡ u out)) × Tails u (out_with (e.line == line) out e.row) line es

  tails-fit : (u : Uncovered) (out : ℕ → Bool) (line : ℕ) (es : List (Entry n)) → Tails u out line es → Fits u out line es
  tails-fit u out line [] t = t
  tails-fit u out line (e ∷ es) t = (inr t.0, t.1)

  tails-given : (u : Uncovered) (out : ℕ → Bool) (line : ℕ) (es : List (Entry n)) → Tails u out line es → given_of es line ≡ u out
  tails-given u out line [] t = sym t
  tails-given u out line (e ∷ es) t = t.0

  -- where no entry is of the line, and its newest write is out
  tails-none : (u : Uncovered) (out : ℕ → Bool) (line row : ℕ) (es : List (Entry n)) → ((out : ℕ → Bool) → out row ≡ true → u out ≡ none_given n) → has_line es line ≡ false → out row ≡ true → Tails u out line es
  tails-none u out line row [] gone lacks is = gone out is
  tails-none u out line row (e ∷ es) gone lacks is = (
    given-lacks (e ∷ es) line lacks ∙ sym (gone out is),
    tails-none u (out_with (e.line == line) out e.row) line row es gone (neither_second (e.line == line) _ lacks) (out_with-kept (e.line == line) out e.row row is),
  )

  -- A new entry

  tails-push : (new old : Uncovered) (out : ℕ → Bool) (line : ℕ) (x : Entry n) (es : List (Entry n)) → Grows n new old x.row x.given → AllLong es → length x.given ≡ n → (x.line == line) ≡ true → has_row es x.row ≡ false → out x.row ≡ false
      → Tails old out line es → Tails new out line (es ++ x ∷ [])
  tails-push new old out line x [] g long len own lacks fresh t = (
    given-push [] x line tt len own ∙ ap (joined x.given) (sym t) ∙ sym (g.more out fresh),
    g.gone (out_with (x.line == line) out x.row) (out_with-new (x.line == line) out x.row own),
  )
  tails-push new old out line x (e ∷ es) g long len own lacks fresh t = (
    given-push (e ∷ es) x line long len own ∙ ap (joined x.given) t.0 ∙ sym (g.more out fresh),
    tails-push new old (out_with (e.line == line) out e.row) line x es g long.1 len own (neither_second (e.row == x.row) _ lacks)
        (out_with-not (e.line == line) out e.row x.row fresh (neither_first (e.row == x.row) _ lacks)) t.1,
  )

  pub fits-push : (new old : Uncovered) (out : ℕ → Bool) (line : ℕ) (x : Entry n) (es : List (Entry n)) → Grows n new old x.row x.given → AllLong es → length x.given ≡ n → (x.line == line) ≡ true → has_row es x.row ≡ false → out x.row ≡ false
      → Fits old out line es → Fits new out line (es ++ x ∷ [])
  fits-push new old out line x [] g long len own lacks fresh t = tails-fit new out line (x ∷ []) (tails-push new old out line x [] g long len own lacks fresh t)
  fits-push new old out line x (e ∷ es) g long len own lacks fresh t = (
    more_fits x.given (given_of (e ∷ es) line) (given_of (e ∷ es ++ x ∷ []) line) (old out) (new out) (len ∙ sym (length-given (e ∷ es) line long)) (given-push (e ∷ es) x line long len own) (g.more out fresh) t.0,
    tails-push new old (out_with (e.line == line) out e.row) line x es g long.1 len own (neither_second (e.row == x.row) _ lacks)
        (out_with-not (e.line == line) out e.row x.row fresh (neither_first (e.row == x.row) _ lacks)) t.1,
  )

  tails-push_other : (u : Uncovered) (out : ℕ → Bool) (line : ℕ) (x : Entry n) (es : List (Entry n)) → (x.line == line) ≡ false → Tails u out line es → Tails u out line (es ++ x ∷ [])
  tails-push_other u out line x [] other t = (given-push_other [] x line other ∙ sym t, ap u (ap (λ b. out_with b out x.row) other) ∙ t)
  tails-push_other u out line x (e ∷ es) other t = (given-push_other (e ∷ es) x line other ∙ t.0, tails-push_other u (out_with (e.line == line) out e.row) line x es other t.1)

  pub fits-push_other : (u : Uncovered) (out : ℕ → Bool) (line : ℕ) (x : Entry n) (es : List (Entry n)) → (x.line == line) ≡ false → Fits u out line es → Fits u out line (es ++ x ∷ [])
  fits-push_other u out line x [] other t = tails-fit u out line (x ∷ []) (tails-push_other u out line x [] other t)
  fits-push_other u out line x (e ∷ es) other t = (
    subst (λ given. (gives_all given ≡ true) ⊎ (given ≡ u out)) (sym (given-push_other (e ∷ es) x line other)) t.0,
    tails-push_other u (out_with (e.line == line) out e.row) line x es other t.1,
  )

  -- A merged write

  tails-merged : (new old : Uncovered) (out : ℕ → Bool) (line at row : ℕ) (bytes : List ℕ) (given : List Bool) (es : List (Entry n)) → Grows n new old row given → AllLong es → length given ≡ n → RowsApart es → newest_row es line ≡ Some at
      → has_row es row ≡ false → out row ≡ false → Tails old out line es → Tails new out line (merged at row bytes given es)
  tails-merged new old out line at row bytes given [] g long len apart is lacks fresh t = absurd (cc)
  tails-merged new old out line at row bytes given (e ∷ es) g long len apart is lacks fresh t =
      by (newest-of e es line at apart is)
      (λ there. tails-merged new old (out_with (e.line == line) out e.row) line at row bytes given es g long.1 len apart.1 there (neither_second (e.row == row) _ lacks)
      (out_with-not (e.line == line) out e.row row fresh (neither_first (e.row == row) _ lacks)) t.1)
    where
      whole : given_of (merged at row bytes given (e ∷ es)) line ≡ new out
      whole = given-merged at row bytes given (e ∷ es) line long len apart is ∙ ap (joined given) t.0 ∙ sym (g.more out fresh)

      by : NewestOf e es line at → (newest_row es line ≡ Some at → Tails new (out_with (e.line == line) out e.row) line (merged at row bytes given es))
          → Tails new out line (cond (eqb e.row at) (laid_on row bytes given e ∷ es) (e ∷ merged at row bytes given es))
      by (inl k) rest =
          let same : cond (eqb e.row at) (laid_on row bytes given e ∷ es) (e ∷ merged at row bytes given es) ≡ laid_on row bytes given e ∷ es = ap (λ b. cond b (laid_on row bytes given e ∷ es) (e ∷ merged at row bytes given es)) k.0 in
          subst (λ es. Tails new out line es) (sym same) (
            ap (λ es. given_of es line) (sym same) ∙ whole,
            tails-none new (out_with (e.line == line) out row) line row es g.gone k.2 (out_with-new (e.line == line) out row k.1),
          )
      by (inr k) rest =
          let same : cond (eqb e.row at) (laid_on row bytes given e ∷ es) (e ∷ merged at row bytes given es) ≡ e ∷ merged at row bytes given es = ap (λ b. cond b (laid_on row bytes given e ∷ es) (e ∷ merged at row bytes given es)) k.0 in
          subst (λ es. Tails new out line es) (sym same) (ap (λ es. given_of es line) (sym same) ∙ whole, rest k.1)

  pub fits-merged : (new old : Uncovered) (out : ℕ → Bool) (line at row : ℕ) (bytes : List ℕ) (given : List Bool) (es : List (Entry n)) → Grows n new old row given → AllLong es → length given ≡ n → RowsApart es → newest_row es line ≡ Some at
      → has_row es row ≡ false → out row ≡ false → Fits old out line es → Fits new out line (merged at row bytes given es)
  fits-merged new old out line at row bytes given [] g long len apart is lacks fresh t = absurd (cc)
  fits-merged new old out line at row bytes given (e ∷ es) g long len apart is lacks fresh t =
      by (newest-of e es line at apart is)
      (λ there. tails-merged new old (out_with (e.line == line) out e.row) line at row bytes given es g long.1 len apart.1 there (neither_second (e.row == row) _ lacks)
      (out_with-not (e.line == line) out e.row row fresh (neither_first (e.row == row) _ lacks)) t.1)
    where
      whole : (gives_all (given_of (merged at row bytes given (e ∷ es)) line) ≡ true) ⊎ (given_of (merged at row bytes given (e ∷ es)) line ≡ new out)
      whole =
          more_fits given (given_of (e ∷ es) line) (given_of (merged at row bytes given (e ∷ es)) line) (old out) (new out) (len ∙ sym (length-given (e ∷ es) line long))
          (given-merged at row bytes given (e ∷ es) line long len apart is) (g.more out fresh) t.0

      by : NewestOf e es line at → (newest_row es line ≡ Some at → Tails new (out_with (e.line == line) out e.row) line (merged at row bytes given es))
          → Fits new out line (cond (eqb e.row at) (laid_on row bytes given e ∷ es) (e ∷ merged at row bytes given es))
      by (inl k) rest =
          let same : cond (eqb e.row at) (laid_on row bytes given e ∷ es) (e ∷ merged at row bytes given es) ≡ laid_on row bytes given e ∷ es = ap (λ b. cond b (laid_on row bytes given e ∷ es) (e ∷ merged at row bytes given es)) k.0 in
          subst (λ es. Fits new out line es) (sym same) (
            subst (λ es. (gives_all (given_of es line) ≡ true) ⊎ (given_of es line ≡ new out)) same whole,
            tails-none new (out_with (e.line == line) out row) line row es g.gone k.2 (out_with-new (e.line == line) out row k.1),
          )
      by (inr k) rest =
          let same : cond (eqb e.row at) (laid_on row bytes given e ∷ es) (e ∷ merged at row bytes given es) ≡ e ∷ merged at row bytes given es = ap (λ b. cond b (laid_on row bytes given e ∷ es) (e ∷ merged at row bytes given es)) k.0 in
          subst (λ es. Fits new out line es) (sym same) (subst (λ es. (gives_all (given_of es line) ≡ true) ⊎ (given_of es line ≡ new out)) same whole, rest k.1)

  tails-merged_other : (u : Uncovered) (out : ℕ → Bool) (of line at row : ℕ) (bytes : List ℕ) (given : List Bool) (es : List (Entry n)) → RowsApart es → newest_row es of ≡ Some at → (of == line) ≡ false
      → Tails u out line es → Tails u out line (merged at row bytes given es)
  tails-merged_other u out of line at row bytes given [] apart is other t = absurd (cc)
  tails-merged_other u out of line at row bytes given (e ∷ es) apart is other t =
      by (newest-of e es of at apart is) (λ there. tails-merged_other u (out_with (e.line == line) out e.row) of line at row bytes given es apart.1 there other t.1)
    where
      whole : given_of (merged at row bytes given (e ∷ es)) line ≡ u out
      whole = given-merged_other at row bytes given (e ∷ es) of line apart (newest-stands (e ∷ es) of at is) other ∙ t.0

      by : NewestOf e es of at → (newest_row es of ≡ Some at → Tails u (out_with (e.line == line) out e.row) line (merged at row bytes given es))
          → Tails u out line (cond (eqb e.row at) (laid_on row bytes given e ∷ es) (e ∷ merged at row bytes given es))
      by (inl k) rest =
          let same : cond (eqb e.row at) (laid_on row bytes given e ∷ es) (e ∷ merged at row bytes given es) ≡ laid_on row bytes given e ∷ es = ap (λ b. cond b (laid_on row bytes given e ∷ es) (e ∷ merged at row bytes given es)) k.0 in
          let elsewhere : (e.line == line) ≡ false = subst (λ l. (l == line) ≡ false) (sym (eqb-true e.line of k.1)) other in
          subst (λ es. Tails u out line es) (sym same) (
            ap (λ es. given_of es line) (sym same) ∙ whole,
            subst (λ b. Tails u (out_with b out row) line es) (sym elsewhere) (subst (λ b. Tails u (out_with b out e.row) line es) elsewhere t.1),
          )
      by (inr k) rest =
          let same : cond (eqb e.row at) (laid_on row bytes given e ∷ es) (e ∷ merged at row bytes given es) ≡ e ∷ merged at row bytes given es = ap (λ b. cond b (laid_on row bytes given e ∷ es) (e ∷ merged at row bytes given es)) k.0 in
          subst (λ es. Tails u out line es) (sym same) (ap (λ es. given_of es line) (sym same) ∙ whole, rest k.1)

  pub fits-merged_other : (u : Uncovered) (out : ℕ → Bool) (of line at row : ℕ) (bytes : List ℕ) (given : List Bool) (es : List (Entry n)) → RowsApart es → newest_row es of ≡ Some at → (of == line) ≡ false
      → Fits u out line es → Fits u out line (merged at row bytes given es)
  fits-merged_other u out of line at row bytes given [] apart is other t = absurd (cc)
  fits-merged_other u out of line at row bytes given (e ∷ es) apart is other t =
      by (newest-of e es of at apart is) (λ there. tails-merged_other u (out_with (e.line == line) out e.row) of line at row bytes given es apart.1 there other t.1)
    where
      whole : (gives_all (given_of (merged at row bytes given (e ∷ es)) line) ≡ true) ⊎ (given_of (merged at row bytes given (e ∷ es)) line ≡ u out)
      whole = subst (λ given. (gives_all given ≡ true) ⊎ (given ≡ u out)) (sym (given-merged_other at row bytes given (e ∷ es) of line apart (newest-stands (e ∷ es) of at is) other)) t.0

      by : NewestOf e es of at → (newest_row es of ≡ Some at → Tails u (out_with (e.line == line) out e.row) line (merged at row bytes given es))
          → Fits u out line (cond (eqb e.row at) (laid_on row bytes given e ∷ es) (e ∷ merged at row bytes given es))
      by (inl k) rest =
          let same : cond (eqb e.row at) (laid_on row bytes given e ∷ es) (e ∷ merged at row bytes given es) ≡ laid_on row bytes given e ∷ es = ap (λ b. cond b (laid_on row bytes given e ∷ es) (e ∷ merged at row bytes given es)) k.0 in
          let elsewhere : (e.line == line) ≡ false = subst (λ l. (l == line) ≡ false) (sym (eqb-true e.line of k.1)) other in
          subst (λ es. Fits u out line es) (sym same) (
            subst (λ es. (gives_all (given_of es line) ≡ true) ⊎ (given_of es line ≡ u out)) same whole,
            subst (λ b. Tails u (out_with b out row) line es) (sym elsewhere) (subst (λ b. Tails u (out_with b out e.row) line es) elsewhere t.1),
          )
      by (inr k) rest =
          let same : cond (eqb e.row at) (laid_on row bytes given e ∷ es) (e ∷ merged at row bytes given es) ≡ e ∷ merged at row bytes given es = ap (λ b. cond b (laid_on row bytes given e ∷ es) (e ∷ merged at row bytes given es)) k.0 in
          subst (λ es. Fits u out line es) (sym same) (subst (λ es. (gives_all (given_of es line) ≡ true) ⊎ (given_of es line ≡ u out)) same whole, rest k.1)

  -- A begin, and a store

  pub fits-begun : (u : Uncovered) (out : ℕ → Bool) (line : ℕ) (due : Option ℕ) (f : ℕ → List ℕ) (es : List (Entry n)) → AllLong es → Fits u out line es → Fits u out line (begun due f es)
  fits-begun u out line (Some region) f es long t = t
  fits-begun u out line None f [] long t = t
  fits-begun u out line None f (e ∷ es) long t = (by (e.line == line) t.0, t.1)
    where
      by : (b : Bool) → (gives_all (cond b (joined (given_of es line) e.given) (given_of es line)) ≡ true) ⊎ (cond b (joined (given_of es line) e.given) (given_of es line) ≡ u out)
          → (gives_all (cond b (joined (given_of es line) (all_given n)) (given_of es line)) ≡ true) ⊎ (cond b (joined (given_of es line) (all_given n)) (given_of es line) ≡ u out)
      by true k = inl (ap gives_all (joined-all_given n (given_of es line) (length-given es line long.1)) ∙ gives_all-all_given n)
      by false k = k

  pub fits-drop : (u : Uncovered) (out : ℕ → Bool) (line : ℕ) (e : Entry n) (es : List (Entry n)) → Fits u out line (e ∷ es) → Fits u (out_with (e.line == line) out e.row) line es
  fits-drop u out line e es t = tails-fit u (out_with (e.line == line) out e.row) line es t.1

  -- where not all bytes are given, the entries give what the writes give
  pub fits-given : (u : Uncovered) (out : ℕ → Bool) (line : ℕ) (es : List (Entry n)) → gives_all (given_of es line) ≡ false → Fits u out line es → given_of es line ≡ u out
  fits-given u out line [] some t = sym t
  fits-given u out line (e ∷ es) some t = by t.0
    where
      by : (gives_all (given_of (e ∷ es) line) ≡ true) ⊎ (given_of (e ∷ es) line ≡ u out) → given_of (e ∷ es) line ≡ u out
      by x0 = grind arith
