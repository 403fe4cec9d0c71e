-- How the bytes that a queue gives of a line follow the writes of the line: s of a number is what the accepted writes from that row on give.
use Rattle.std.proofs.Common.{◌≡◌, ℕ, ◌<◌, ◌≤◌, ◌==◌, ◌⊎◌, inl, inr, Bool, true, false, suc, List, [], ◌∷◌, ◌++◌, Option, Some, None, length, refl, sym, ap, ◌∙◌, subst, arith, cond, eqb, eqb-true}
use Rattle.std.proofs.lemmas.Bool.{eq-eqb, or_left, or_right}
use Rattle.masked_bytes.specs.{Entries.{RowsApart, has_row, merged, laid_on, newest_row, candidate, or_this}, Masked.{joined, none_given, gives_all}, declared.entry.Entry.Entry}
use Rattle.masked_bytes.proofs.{Layering.{joined-none_right, gives_all-all_given}, Truth.{neither_first, neither_second}}
use Rattle.bank_model.specs.History.{begun}
use Rattle.bank_laws.specs.Pairs.{has_line, LinesApart, ArePaired}
use Rattle.bank_laws.proofs.Given.{given_of, length-given, given-lacks, given-other, given-alone, given-push, given-push_other, given-merged, given-merged_other}
use Rattle.bank_laws.proofs.{Lines.{Stands, stands-row, stands-line, newest-line, newest-stands}, Pairs.{AllLong, gives_all-joined}}
use Rattle.queue_laws.proofs.Order.{MergesInto, merges_into, behind}

module _ {n : ℕ} where
  -- behind a head of another line stands what the writes from the floor on give; a head of the line gives that, or all
  abbrev pub Front : (ℕ → List Bool) → ℕ → ℕ → List (Entry n) → Type 0
  Front s floor line [] = s floor ≡ none_given n
  Front s floor line (e ∷ es) = ((e.line == line) ≡ false → given_of es line ≡ s floor) × ((e.line == line) ≡ true → (e.given ≡ s floor) ⊎ (gives_all e.given ≡ true))

  -- behind an entry of the line stands what the writes behind its row give
  abbrev pub Tails : (ℕ → List Bool) → ℕ → List (Entry n) → Type 0
  Tails s line [] = Unit {0}
  Tails s line (e ∷ es) = ((e.line == line) ≡ true → given_of es line ≡ s (suc e.row)) × Tails s line es

  -- the head has a line
  abbrev pub HasHead : ℕ → List (Entry n) → Type 0
  HasHead line [] = ⊥
  HasHead line (e ∷ es) = e.line ≡ line

  -- where the writes are others, but give the same
  own-same : (s t : List Bool) (e : Entry n) → t ≡ s → (e.given ≡ s) ⊎ (gives_all e.given ≡ true) → (e.given ≡ t) ⊎ (gives_all e.given ≡ true)
  own-same s t e same (inl is) = inl (is ∙ sym same)
  own-same s t e same (inr full) = inr full

  pub front-same : (s t : ℕ → List Bool) (a b line : ℕ) (es : List (Entry n)) → t b ≡ s a → Front s a line es → Front t b line es
  front-same s t a b line [] same f = same ∙ f
  front-same s t a b line (e ∷ es) same f = ((λ ne. f.0 ne ∙ sym same), λ is. own-same (s a) (t b) e same (f.1 is))

  pub tails-same : (s t : ℕ → List Bool) (line : ℕ) (es : List (Entry n)) → ((floor : ℕ) → t floor ≡ s floor) → Tails s line es → Tails t line es
  tails-same s t line [] same f = tt
  tails-same s t line (e ∷ es) same f = ((λ is. f.0 is ∙ sym (same (suc e.row))), tails-same s t line es same f.1)

  pub tails-lacks : (s : ℕ → List Bool) (line : ℕ) (es : List (Entry n)) → has_line es line ≡ false → Tails s line es
  tails-lacks s line [] h = tt
  tails-lacks s line (e ∷ es) h = ((λ is. absurd (cc (is, neither_first (e.line == line) _ h))), tails-lacks s line es (neither_second (e.line == line) _ h))

  -- A write of the line: from each floor up to its row it gives its bytes beside the others

  module _ (s t : ℕ → List Bool) (at line : ℕ) (given : List Bool) (long : length given ≡ n) (joins : (floor : ℕ) → floor ≤ at → t floor ≡ joined given (s floor)) (last : t (suc at) ≡ none_given n) where
    pub front-push : (floor : ℕ) (es : List (Entry n)) (x : Entry n) → AllLong es → x.given ≡ given → (x.line == line) ≡ true → floor ≤ at
        → ((e : Entry n) (rest : List (Entry n)) → es ≡ e ∷ rest → (e.line == line) ≡ true → gives_all e.given ≡ true) → Front s floor line es → Front t floor line (es ++ x ∷ [])
    front-push floor [] x l g is le busy f = ((λ ne. absurd (cc (ne, is))), λ own. inl (g ∙ sym (joins floor le ∙ ap (λ k. joined given k) f ∙ joined-none_right n given long)))
    front-push floor (e ∷ es) x l g is le busy f = (
      (λ ne. given-push es x line l.1 (ap length g ∙ long) is ∙ ap (λ k. joined x.given k) (f.0 ne) ∙ ap (λ k. joined k (s floor)) g ∙ sym (joins floor le)),
      λ own. inr (busy e es refl own),
    )

    pub tails-push : (es : List (Entry n)) (x : Entry n) → AllLong es → x.row ≡ at → x.given ≡ given → (x.line == line) ≡ true → ((row : ℕ) → has_row es row ≡ true → row < at) → Tails s line es → Tails t line (es ++ x ∷ [])
    tails-push [] x l r g is below f = ((λ own. sym (ap (λ k. t (suc k)) r ∙ last)), tt)
    tails-push (e ∷ es) x l r g is below f = (
      (λ own.
          let lt : e.row < at = below e.row (or_left (e.row == e.row) _ (eq-eqb e.row e.row refl)) in
          given-push es x line l.1 (ap length g ∙ long) is ∙ ap (λ k. joined x.given k) (f.0 own) ∙ ap (λ k. joined k (s (suc e.row))) g ∙ sym (joins (suc e.row) (omega (arith, lt)))),
      tails-push es x l.1 r g is (λ row there. below row (or_right (e.row == row) _ there)) f.1,
    )

    pub front-merged : (floor : ℕ) (busy : Bool) (old : ℕ) (bytes : List ℕ) (es : List (Entry n)) → RowsApart es → AllLong es → ArePaired es → candidate busy es line ≡ Some old → floor ≤ at → Front s floor line es
        → Front t floor line (merged old at bytes given es)
    front-merged floor busy old bytes [] apart l p c le f = absurd (cc)
    front-merged floor busy old bytes (e ∷ es) apart l p c le f = by (merges_into busy e es line old c)
      where
        own : (e.given ≡ s floor) ⊎ (gives_all e.given ≡ true) → (joined given e.given ≡ t floor) ⊎ (gives_all (joined given e.given) ≡ true)
        own (inl is) = inl (ap (λ k. joined given k) is ∙ sym (joins floor le))
        own (inr full) = inr (gives_all-joined given e.given (long ∙ sym l.0) full)

        by : MergesInto busy e es line old → Front t floor line (merged old at bytes given (e ∷ es))
        by (inl new) =
            subst (λ b. Front t floor line (cond b (laid_on at bytes given e ∷ es) (e ∷ merged old at bytes given es))) (sym (behind e es line old apart new)) (
              (λ ne. given-merged old at bytes given es line l.1 long apart.1 new ∙ ap (λ k. joined given k) (f.0 ne) ∙ sym (joins floor le)),
              λ is. inr (p.1 (subst (λ k. has_line es k ≡ true) (sym (eqb-true e.line line is)) (stands-line es old line (newest-stands es line old new)))),
            )
        by (inr is) =
            subst (λ b. Front t floor line (cond b (laid_on at bytes given e ∷ es) (e ∷ merged old at bytes given es))) (sym (eq-eqb e.row old is.1)) (
              (λ ne. absurd (cc (ne, eq-eqb e.line line is.2))),
              λ k. own (f.1 k),
            )

    pub tails-merged : (old : ℕ) (bytes : List ℕ) (es : List (Entry n)) → RowsApart es → AllLong es → newest_row es line ≡ Some old → ((row : ℕ) → has_row es row ≡ true → row < at) → Tails s line es
        → Tails t line (merged old at bytes given es)
    tails-merged old bytes [] apart l new below f = tt
    tails-merged old bytes (e ∷ es) apart l new below f =
        by (newest_row es line) refl (λ k. tails-merged old bytes es apart.1 l.1 k (λ row there. below row (or_right (e.row == row) _ there)) f.1) new
      where
        lt : e.row < at
        lt = below e.row (or_left (e.row == e.row) _ (eq-eqb e.row e.row refl))

        own : (b : Bool) → eqb e.line line ≡ b → newest_row es line ≡ None → cond b (Some e.row) None ≡ Some old → Tails t line (merged old at bytes given (e ∷ es))
        own true is none h =
            let same : e.row ≡ old = cc in
            let there : has_line es line ≡ false = newest-line es line none in
            subst (λ b. Tails t line (cond b (laid_on at bytes given e ∷ es) (e ∷ merged old at bytes given es))) (sym (eq-eqb e.row old same))
            ((λ k. given-lacks es line there ∙ sym last), tails-lacks t line es there)
        own false is none h = absurd (cc)

        by : (r : Option ℕ) → newest_row es line ≡ r → (newest_row es line ≡ Some old → Tails t line (merged old at bytes given es)) → or_this r (cond (eqb e.line line) (Some e.row) None) ≡ Some old
            → Tails t line (merged old at bytes given (e ∷ es))
        by (Some r) is go h =
            subst (λ b. Tails t line (cond b (laid_on at bytes given e ∷ es) (e ∷ merged old at bytes given es))) (sym (behind e es line old apart (is ∙ h)))
            ((λ k. given-merged old at bytes given es line l.1 long apart.1 (is ∙ h) ∙ ap (λ k. joined given k) (f.0 k) ∙ sym (joins (suc e.row) (omega (arith, lt)))), go (is ∙ h))
        by None is go h = own (eqb e.line line) refl is h

  -- A write of another line

  module _ (s : ℕ → List Bool) (line : ℕ) where
    pub front-push_other : (floor : ℕ) (es : List (Entry n)) (x : Entry n) → (x.line == line) ≡ false → Front s floor line es → Front s floor line (es ++ x ∷ [])
    front-push_other floor [] x ne f = ((λ k. sym f), λ is. absurd (cc (ne, is)))
    front-push_other floor (e ∷ es) x ne f = ((λ k. given-push_other es x line ne ∙ f.0 k), f.1)

    pub tails-push_other : (es : List (Entry n)) (x : Entry n) → (x.line == line) ≡ false → Tails s line es → Tails s line (es ++ x ∷ [])
    tails-push_other [] x ne f = ((λ is. absurd (cc (ne, is))), tt)
    tails-push_other (e ∷ es) x ne f = ((λ is. given-push_other es x line ne ∙ f.0 is), tails-push_other es x ne f.1)

    pub front-merged_other : (floor old at : ℕ) (bytes : List ℕ) (given : List Bool) (es : List (Entry n)) (into : ℕ) → RowsApart es → Stands es old into → (into == line) ≡ false → Front s floor line es
        → Front s floor line (merged old at bytes given es)
    front-merged_other floor old at bytes given [] into apart st ne f = f
    front-merged_other floor old at bytes given (e ∷ es) into apart st ne f = by (eqb e.row old) refl st
      where
        by : (b : Bool) → eqb e.row old ≡ b → Stands (e ∷ es) old into → Front s floor line (cond b (laid_on at bytes given e ∷ es) (e ∷ merged old at bytes given es))
        by true is (inl k) = let other : (e.line == line) ≡ false = subst (λ k. (k == line) ≡ false) (sym k.1) ne in ((λ j. f.0 other), λ own. absurd (cc (other, own)))
        by true is (inr k) = absurd (cc (subst (λ r. has_row es r ≡ false) (eqb-true e.row old is) apart.0, stands-row es old into k))
        by false is (inl k) = absurd (cc (is, eq-eqb e.row old k.0))
        by false is (inr k) = ((λ j. given-merged_other old at bytes given es into line apart.1 k ne ∙ f.0 j), f.1)

    pub tails-merged_other : (old at : ℕ) (bytes : List ℕ) (given : List Bool) (es : List (Entry n)) (into : ℕ) → RowsApart es → Stands es old into → (into == line) ≡ false → Tails s line es
        → Tails s line (merged old at bytes given es)
    tails-merged_other old at bytes given [] into apart st ne f = f
    tails-merged_other old at bytes given (e ∷ es) into apart st ne f = by (eqb e.row old) refl st (λ k. tails-merged_other old at bytes given es into apart.1 k ne f.1)
      where
        by : (b : Bool) → eqb e.row old ≡ b → Stands (e ∷ es) old into → (Stands es old into → Tails s line (merged old at bytes given es)) → Tails s line (cond b (laid_on at bytes given e ∷ es) (e ∷ merged old at bytes given es))
        by true is (inl k) go = let other : (e.line == line) ≡ false = subst (λ k. (k == line) ≡ false) (sym k.1) ne in ((λ own. absurd (cc (other, own))), f.1)
        by true is (inr k) go = absurd (cc (subst (λ r. has_row es r ≡ false) (eqb-true e.row old is) apart.0, stands-row es old into k))
        by false is (inl k) go = absurd (cc (is, eq-eqb e.row old k.0))
        by false is (inr k) go = ((λ own. given-merged_other old at bytes given es into line apart.1 k ne ∙ f.0 own), go k)

    -- A begun head, and a stored one

    pub front-begun : (floor : ℕ) (due : Option ℕ) (fill : ℕ → List ℕ) (es : List (Entry n)) → Front s floor line es → Front s floor line (begun due fill es)
    front-begun floor None fill (e ∷ es) f = (f.0, λ own. inr (gives_all-all_given n))
    front-begun floor _ fill _ f = f

    pub tails-begun : (due : Option ℕ) (fill : ℕ → List ℕ) (es : List (Entry n)) → Tails s line es → Tails s line (begun due fill es)
    tails-begun due fill es f = grind arith

    front-of : (floor : ℕ) (es : List (Entry n)) → AllLong es → LinesApart es → given_of es line ≡ s floor → Front s floor line es
    front-of floor [] l apart is = sym is
    front-of floor (e ∷ es) l apart is = (
      (λ ne. sym (given-other e es line ne) ∙ is),
      λ own. inl (sym (given-alone e es line l own (subst (λ k. has_line es k ≡ false) (eqb-true e.line line own) apart.0)) ∙ is),
    )

    -- a head of the line raises the floor to behind its row
    pub front-stored : (e : Entry n) (es : List (Entry n)) → AllLong es → LinesApart es → (e.line == line) ≡ true → Tails s line (e ∷ es) → Front s (suc e.row) line es
    front-stored e es l apart own f = front-of (suc e.row) es l apart (f.0 own)

    pub front-stored_other : (floor : ℕ) (e : Entry n) (es : List (Entry n)) → AllLong es → LinesApart es → (e.line == line) ≡ false → Front s floor line (e ∷ es) → Front s floor line es
    front-stored_other floor e es l apart ne f = front-of floor es l apart (f.0 ne)

    -- What follows: where the writes from the floor on give all bytes the queue does, and else only a head of the line does

    pub front-covers : (floor : ℕ) (es : List (Entry n)) → AllLong es → Front s floor line es → gives_all (s floor) ≡ true → gives_all (given_of es line) ≡ true
    front-covers floor [] l f all = subst (λ k. gives_all k ≡ true) f all
    front-covers floor (e ∷ es) l f all = by (eqb e.line line) refl
      where
        own : (e.given ≡ s floor) ⊎ (gives_all e.given ≡ true) → gives_all e.given ≡ true
        own (inl is) = subst (λ k. gives_all k ≡ true) (sym is) all
        own (inr full) = full

        by : (b : Bool) → eqb e.line line ≡ b → gives_all (cond b (joined (given_of es line) e.given) (given_of es line)) ≡ true
        by true is = gives_all-joined (given_of es line) e.given (length-given es line l.1 ∙ sym l.0) (own (f.1 is))
        by false is = subst (λ k. gives_all k ≡ true) (sym (f.0 is)) all

    pub front-head : (floor : ℕ) (es : List (Entry n)) → Front s floor line es → gives_all (s floor) ≡ false → gives_all (given_of es line) ≡ true → HasHead line es
    front-head floor [] f not_all all = absurd (cc (subst (λ k. gives_all k ≡ false) f not_all, all))
    front-head floor (e ∷ es) f not_all all = by (eqb e.line line) refl all
      where
        by : (b : Bool) → eqb e.line line ≡ b → gives_all (cond b (joined (given_of es line) e.given) (given_of es line)) ≡ true → e.line ≡ line
        by true is all = eqb-true e.line line is
        by false is all = absurd (cc (subst (λ k. gives_all k ≡ false) (sym (f.0 is)) not_all, all))
