-- The rows of a bank, with their numbers.
use Rattle.std.proofs.Common.{◌≡◌, ℕ, zero, suc, ◌+◌, ◌-◌, ◌≤◌, Bool, true, false, List, [], ◌∷◌, ◌++◌, Some, length, drop, refl, sym, ap, ◌∙◌, cond, subst, append_assoc, append-nil, arith}
use Rattle.std.{specs.Prelude.{All, slice_get}, proofs.lemmas.List.map-append, proofs.lemmas.List.Elements.{All-nil, All-push, All-same}}
use Rattle.row_rules.specs.{Table.{is_of, of_bank}, declared.Row.Row}
use Rattle.check_telling.{specs.Standing.{row_of, rows_of, numbered, IsNumbered, AreNumbered, mates_of, with_mate}, specs.declared.mates.Numbered.Numbered, proofs.Folds.none_left}

module _ {n : ℕ} (bank_of : ℕ → ℕ) (bank above : ℕ) where
  -- these rows, from an index on, come one after another
  abbrev pub mates_on : ℕ → List (Numbered n) → List (Row n) → List (Numbered n)
  mates_on i told [] = told
  mates_on i told (row ∷ rows) = mates_on (i + 1) (with_mate bank_of bank (numbered (above + i + 1) row) told) rows

  one_more : (b : Bool) (new : Numbered n) (told : List (Numbered n)) (rest : List (Row n))
      → rows_of (cond b (told ++ new ∷ []) told) ++ rest ≡ rows_of told ++ cond b (new.row ∷ rest) rest
  one_more true new told rest = ap (λ xs. xs ++ rest) (map-append row_of told (new ∷ [])) ∙ append_assoc (rows_of told) (new.row ∷ []) rest
  one_more false new told rest = refl

  mates_are : (i : ℕ) (told : List (Numbered n)) (rows : List (Row n)) → rows_of (mates_on i told rows) ≡ rows_of told ++ of_bank bank_of bank rows
  mates_are i told [] = sym (append-nil (rows_of told))
  mates_are i told (row ∷ rows) =
      mates_are (i + 1) (with_mate bank_of bank (numbered (above + i + 1) row) told) rows
      ∙ one_more (is_of bank_of bank row.asks) (numbered (above + i + 1) row) told (of_bank bank_of bank rows)

  there : (table : List (Row n)) (i : ℕ) (row : Row n) (rest : List (Row n)) → drop i table ≡ row ∷ rest → slice_get table i ≡ Some row
  there [] zero row rest is = absurd (cc)
  there [] (suc i) row rest is = absurd (cc)
  there (q ∷ table) zero row rest is = let same : q ≡ row = cc in ap Some same
  there (q ∷ table) (suc i) row rest is = there table i row rest is

  behind : (table : List (Row n)) (i : ℕ) (row : Row n) (rest : List (Row n)) → drop i table ≡ row ∷ rest → drop (suc i) table ≡ rest
  behind [] zero row rest is = absurd (cc)
  behind [] (suc i) row rest is = absurd (cc)
  behind (q ∷ table) zero row rest is = cc
  behind (q ∷ table) (suc i) row rest is = behind table i row rest is

  told_one : (table : List (Row n)) (i : ℕ) (row : Row n) (rest : List (Row n)) → drop i table ≡ row ∷ rest → IsNumbered above table (numbered (above + i + 1) row)
  told_one table i row rest is =
      let place : i ≡ above + i + 1 - 1 - above = omega arith in
      record { within = omega arith; at = subst (λ k. slice_get table k ≡ Some row) place (there table i row rest is) }

  joins : (P : Numbered n → Type 0) (b : Bool) (new : Numbered n) (told : List (Numbered n)) → P new → All P told → All P (cond b (told ++ new ∷ []) told)
  joins P true new told p all = All-push P told new all p
  joins P false new told p all = all

  mates_numbered : (table : List (Row n)) (i : ℕ) (told : List (Numbered n)) (rows : List (Row n)) → drop i table ≡ rows → AreNumbered above table told → AreNumbered above table (mates_on i told rows)
  mates_numbered table i told [] is all = all
  mates_numbered table i told (row ∷ rows) is all =
      let one : suc i ≡ i + 1 = omega arith in
      mates_numbered table (i + 1) (with_mate bank_of bank (numbered (above + i + 1) row) told) rows (ap (λ k. drop k table) (sym one) ∙ behind table i row rows is)
      (joins (λ o. IsNumbered above table o) (is_of bank_of bank row.asks) (numbered (above + i + 1) row) told (told_one table i row rows is) all)

  left : (i : ℕ) (told : List (Numbered n)) (rows : List (Row n)) → length rows ≤ i → mates_on i told (drop i rows) ≡ mates_on 0 [] rows → told ≡ mates_on 0 [] rows
  left i told rows le is = ap (mates_on i told) (sym (none_left i rows le)) ∙ is

  -- one after another they are those of the bank, by their numbers
  mates_exact : (i : ℕ) (told : List (Numbered n)) (rows : List (Row n)) → mates_on i told rows ≡ told ++ mates_of bank_of bank (above + i) rows
  mates_exact i told [] = sym (append-nil told)
  mates_exact i told (row ∷ rows) =
      let next : above + (i + 1) ≡ above + i + 1 = omega arith in
      mates_exact (i + 1) (with_mate bank_of bank (numbered (above + i + 1) row) told) rows
      ∙ ap (λ k. with_mate bank_of bank (numbered (above + i + 1) row) told ++ mates_of bank_of bank k rows) next
      ∙ joined (is_of bank_of bank row.asks) (numbered (above + i + 1) row) told (mates_of bank_of bank (above + i + 1) rows)
    where
      joined : (b : Bool) (new : Numbered n) (told rest : List (Numbered n)) → cond b (told ++ new ∷ []) told ++ rest ≡ told ++ cond b (new ∷ rest) rest
      joined true new told rest = append_assoc told (new ∷ []) rest
      joined false new told rest = refl

  pub mates_made : (i : ℕ) (told : List (Numbered n)) (rows : List (Row n)) → length rows ≤ i → mates_on i told (drop i rows) ≡ mates_on 0 [] rows
      → told ≡ mates_of bank_of bank above rows
  mates_made i told rows le is =
      let none : above + 0 ≡ above = omega arith in
      left i told rows le is ∙ mates_exact 0 [] rows ∙ ap (λ k. mates_of bank_of bank k rows) none

  pub mates_found : (i : ℕ) (told : List (Numbered n)) (rows : List (Row n)) → length rows ≤ i → mates_on i told (drop i rows) ≡ mates_on 0 [] rows
      → rows_of told ≡ of_bank bank_of bank rows
  mates_found i told rows le is = ap rows_of (left i told rows le is) ∙ mates_are 0 [] rows

  pub mates_told : (i : ℕ) (told : List (Numbered n)) (rows : List (Row n)) → length rows ≤ i → mates_on i told (drop i rows) ≡ mates_on 0 [] rows
      → AreNumbered above rows told
  mates_told i told rows le is = All-same (λ o. IsNumbered above rows o) told _ (left i told rows le is) (mates_numbered rows 0 [] rows refl (All-nil _))
