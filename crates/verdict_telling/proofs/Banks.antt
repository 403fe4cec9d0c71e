-- The rows of a bank.
use Rattle.std.proofs.Common.{◌≡◌, ℕ, ◌+◌, ◌&&◌, ◌||◌, ◌≤◌, ◌<◌, Bool, true, false, List, [], ◌∷◌, Some, length, refl, sym, ap, ◌∙◌, cond, subst, arith}
use Rattle.std.{specs.List.list_any, proofs.lemmas.Bool.{le-leb, leb-true}}
use Rattle.masked_bytes.proofs.Truth.{and_first, and_second}
use Rattle.row_rules.specs.{Lines.IsOfLines, Table.{is_of, of_bank}, Wearing.worn_row, declared.Asks.Asks, declared.Asks.TheVariants.{Reads, Writes, Cuts}, declared.Row.Row}
use Rattle.check_judging.specs.Rising.{rising}
use Rattle.check_telling.specs.{Standing.{first_at, mates_of, numbered, row_at, rows_of}, declared.mates.Numbered.Numbered}
use Rattle.verdict_telling.specs.Explained.{IsWriteOf, is_some_row}

module _ {n : ℕ} where
  pub rising_of_bank : (bank_of : ℕ → ℕ) (bank t : ℕ) (rows : List (Row n)) → rising t rows ≡ true → rising t (of_bank bank_of bank rows) ≡ true
  rising_of_bank bank_of bank t [] h = refl
  rising_of_bank bank_of bank t (q ∷ rows) h = by (is_of bank_of bank q.asks) (rising_of_bank bank_of bank q.tick rows (and_second _ _ h))
    where
      rising_less : (s t : ℕ) (rows : List (Row n)) → t ≤ s → rising s rows ≡ true → rising t rows ≡ true
      rising_less s t [] le h = refl
      rising_less s t (q ∷ rows) le h =
          let a = leb-true s q.tick (and_first _ _ h) in
          ap (λ b. b && rising q.tick rows) (le-leb t q.tick (omega (arith, a, le))) ∙ and_second _ _ h

      by : (b : Bool) → rising q.tick (of_bank bank_of bank rows) ≡ true → rising t (cond b (q ∷ of_bank bank_of bank rows) (of_bank bank_of bank rows)) ≡ true
      by true k = ap (λ b. b && rising q.tick (of_bank bank_of bank rows)) (and_first _ _ h) ∙ k
      by false k = rising_less q.tick t (of_bank bank_of bank rows) (leb-true t q.tick (and_first _ _ h)) k

  pub worn_is : (told : List (Numbered n)) → is_some_row (first_at worn_row told) ≡ list_any worn_row (rows_of told)
  worn_is [] = refl
  worn_is (one ∷ told) = by (worn_row one.row) (worn_is told)
    where
      by : (b : Bool) → is_some_row (first_at worn_row told) ≡ list_any worn_row (rows_of told)
          → is_some_row (cond b (Some (row_at one)) (first_at worn_row told)) ≡ (b || list_any worn_row (rows_of told))
      by true h = refl
      by false h = h

  -- a bank's rows are those of its numbered rows
  pub rows_are : (bank_of : ℕ → ℕ) (bank above : ℕ) (rows : List (Row n)) → rows_of (mates_of bank_of bank above rows) ≡ of_bank bank_of bank rows
  rows_are bank_of bank above [] = refl
  rows_are bank_of bank above (q ∷ rows) = by (is_of bank_of bank q.asks) (rows_are bank_of bank (above + 1) rows)
    where
      by : (b : Bool) → rows_of (mates_of bank_of bank (above + 1) rows) ≡ of_bank bank_of bank rows
          → rows_of (cond b (numbered (above + 1) q ∷ mates_of bank_of bank (above + 1) rows) (mates_of bank_of bank (above + 1) rows))
          ≡ cond b (q ∷ of_bank bank_of bank rows) (of_bank bank_of bank rows)
      by true h = ap (λ xs. q ∷ xs) h
      by false h = h

pub line_asked : {n : ℕ} (banks : List ℕ) (line : ℕ) (asks : Asks n) → IsWriteOf line asks → IsOfLines (length banks) asks → line < length banks
line_asked banks line (Reads at) of lt = absurd of
line_asked banks line (Writes at bytes given) of lt = subst (λ k. k < length banks) (sym of) lt
line_asked banks line Cuts of lt = absurd of
