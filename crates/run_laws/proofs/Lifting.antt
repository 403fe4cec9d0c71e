-- What each row of each bank's table is, over the rows before it, the row of the module is over the rows of its bank.
use Rattle.std.proofs.Common.{◌≡◌, ℕ, ◌<◌, Bool, true, false, List, [], ◌∷◌, ◌++◌, map, refl, sym, ap, ◌∙◌, subst, cond, eq-eqb, append_assoc}
use Rattle.std.{specs.Prelude.All, proofs.lemmas.List.Elements.{All-nil, All-cons, All-head, All-tail}}
use Rattle.masked_bytes.proofs.Truth.{and_first, and_second}
use Rattle.row_rules.specs.{Lines.IsOfLines, Rows.{RowTest, each_row}, Table.{is_of, of_bank}, declared.Asks.Asks, declared.Asks.TheVariants.{Reads, Writes, Cuts}}
use Rattle.row_rules.specs.declared.Row.{Row}
use Rattle.right_runs.specs.Tables.{asks_in, row_in, bank_table}

module _ {n : ℕ} where
  -- each of these rows, the newest first, is this over the rows before it
  abbrev pub Each : (List (Row n) → Row n → Type 0) → List (Row n) → Type 0
  Each P [] = Unit {0}
  Each P (r ∷ before) = P before r × Each P before

  -- by a test that each row passes
  pub each-passes : (P : List (Row n) → Row n → Type 0) (test : RowTest n) → ((before : List (Row n)) (r : Row n) (after : List (Row n)) → test before r after ≡ true → P before r)
      → (rows after : List (Row n)) → each_row test rows after ≡ true → Each P rows
  each-passes P test f [] after h = tt
  each-passes P test f (r ∷ before) after h =
      (f before r after (and_first _ _ h), each-passes P test f before (r ∷ after) (and_second (test before r after) _ h))

  pub each-all : (P : List (Row n) → Row n → Type 0) (Q : Row n → Type 0) → ((before : List (Row n)) (r : Row n) → P before r → Q r)
      → (rows : List (Row n)) → Each P rows → All Q rows
  each-all P Q f [] h = All-nil Q
  each-all P Q f (r ∷ before) h = All-cons Q r before (f before r h.0) (each-all P Q f before h.1)

  -- of one row between others
  pub each-at : (P : List (Row n) → Row n → Type 0) (later : List (Row n)) (r : Row n) (before : List (Row n)) → Each P (later ++ r ∷ before) → P before r
  each-at P [] r before h = h.0
  each-at P (s ∷ later) r before h = each-at P later r before h.1

  -- of all rows, where it is so of each between others
  pub each-of : (P : List (Row n) → Row n → Type 0) (all : List (Row n)) → ((later before : List (Row n)) (r : Row n) → all ≡ later ++ r ∷ before → P before r)
      → (later rows : List (Row n)) → all ≡ later ++ rows → Each P rows
  each-of P all f later [] same = tt
  each-of P all f later (r ∷ before) same =
      (f later before r same, each-of P all f (later ++ r ∷ []) before (same ∙ sym (append_assoc later (r ∷ []) before)))

  pub both : (P Q : List (Row n) → Row n → Type 0) (rows : List (Row n)) → Each P rows → Each Q rows → Each (λ before r. P before r × Q before r) rows
  both P Q [] h k = tt
  both P Q (r ∷ before) h k = ((h.0, k.0), both P Q before h.1 k.1)

  -- with a fact of each row alone
  pub with_all : (P : List (Row n) → Row n → Type 0) (Q : Row n → Type 0) (rows : List (Row n)) → Each P rows → All Q rows → Each (λ before r. P before r × Q r) rows
  with_all P Q [] h k = tt
  with_all P Q (r ∷ before) h k = ((h.0, All-head Q r before k), with_all P Q before h.1 (All-tail Q r before k))

module _ {n : ℕ} (banks lines : ℕ) (bank_of line_in : ℕ → ℕ) (exists : (line : ℕ) → line < lines → bank_of line < banks)
    (P : ℕ → List (Row n) → Row n → Type 0) where
  -- a row is this in the table of its own bank; a cut is of no bank
  abbrev pub InOwnBank : List (Row n) → Row n → Asks n → Type 0
  InOwnBank before r (Reads line) =
      P (bank_of line) (bank_table bank_of line_in (bank_of line) before) (record { tick = r.tick; asks = Reads (line_in line); outcome = r.outcome })
  InOwnBank before r (Writes line bytes given) =
      P (bank_of line) (bank_table bank_of line_in (bank_of line) before) (record { tick = r.tick; asks = Writes (line_in line) bytes given; outcome = r.outcome })
  InOwnBank before r Cuts = Unit {0}

  older : (bank : ℕ) (r : Row n) (before : List (Row n)) (own : Bool)
      → Each (P bank) (map (row_in bank_of line_in) (cond own (r ∷ of_bank bank_of bank before) (of_bank bank_of bank before)))
      → Each (P bank) (bank_table bank_of line_in bank before)
  older bank r before true h = h.1
  older bank r before false h = h

  newest_of : (bank : ℕ) (r : Row n) (before : List (Row n)) (asks : Asks n) → r.asks ≡ asks → is_of bank_of bank asks ≡ true
      → Each (P bank) (bank_table bank_of line_in bank (r ∷ before))
      → P bank (bank_table bank_of line_in bank before) (record { tick = r.tick; asks = asks_in bank_of line_in asks; outcome = r.outcome })
  newest_of bank r before asks is own h =
      let here : is_of bank_of bank r.asks ≡ true = ap (λ (a : Asks n). is_of bank_of bank a) is ∙ own in
      subst (λ (a : Asks n). P bank (bank_table bank_of line_in bank before) (record { tick = r.tick; asks = asks_in bank_of line_in a; outcome = r.outcome })) is
      (subst (λ (b : Bool). Each (P bank) (map (row_in bank_of line_in) (cond b (r ∷ of_bank bank_of bank before) (of_bank bank_of bank before)))) here h).0

  newest_row : (r : Row n) (before : List (Row n)) (asks : Asks n) → r.asks ≡ asks → IsOfLines lines asks
      → ((bank : ℕ) → bank < banks → Each (P bank) (bank_table bank_of line_in bank (r ∷ before))) → InOwnBank before r asks
  newest_row r before (Reads line) is of h =
      newest_of (bank_of line) r before (Reads line) is (eq-eqb (bank_of line) (bank_of line) refl) (h (bank_of line) (exists line of))
  newest_row r before (Writes line bytes given) is of h =
      newest_of (bank_of line) r before (Writes line bytes given) is (eq-eqb (bank_of line) (bank_of line) refl) (h (bank_of line) (exists line of))
  newest_row r before Cuts is of h = tt

  pub lifted : (rows : List (Row n)) → All (λ r. IsOfLines lines r.asks) rows
      → ((bank : ℕ) → bank < banks → Each (P bank) (bank_table bank_of line_in bank rows)) → Each (λ before r. InOwnBank before r r.asks) rows
  lifted [] all h = tt
  lifted (r ∷ before) all h = (
    newest_row r before r.asks refl (All-head (λ (r : Row n). IsOfLines lines r.asks) r before all) h,
    lifted before (All-tail (λ (r : Row n). IsOfLines lines r.asks) r before all) (λ bank few. older bank r before (is_of bank_of bank r.asks) (h bank few)),
  )
