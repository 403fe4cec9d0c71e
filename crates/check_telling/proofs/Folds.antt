-- What is found in rows the oldest first, of definitions that go over them the newest first.
use Rattle.std.proofs.Common.{◌≡◌, ℕ, suc, zero, ◌+◌, ◌≤◌, Bool, List, [], ◌∷◌, ◌++◌, length, drop, refl, sym, ap, ◌∙◌, arith, append-nil}
use Rattle.std.{specs.Prelude.{reverse, count_by}, proofs.lemmas.List.reverse-append}
use Rattle.masked_bytes.proofs.{Counting.{count-append, count-cons}, Lists.turned}
use Rattle.row_rules.specs.{Rows.{newest, lay_row}, declared.Row.Row}
use Rattle.check_telling.specs.{Givers.{givers, mark_row}, Standing.rows_of, declared.mates.Numbered.Numbered}

module _ {n : ℕ} where
  -- with these rows, the oldest first, laid over what stands
  abbrev pub newest_on : ℕ → List ℕ → List (Row n) → List ℕ
  newest_on line under [] = under
  newest_on line under (q ∷ rows) = newest_on line (lay_row line q under) rows

  abbrev pub givers_on : ℕ → ℕ → List ℕ → List (Row n) → List ℕ
  givers_on line number under [] = under
  givers_on line number under (q ∷ rows) = givers_on line (number + 1) (mark_row line (number + 1) q under) rows

  newest_behind : (line : ℕ) (rows earlier : List (Row n)) → newest (reverse rows ++ earlier) line ≡ newest_on line (newest earlier line) rows
  newest_behind line [] earlier = refl
  newest_behind line (q ∷ rows) earlier = ap (λ xs. newest xs line) (turned q rows earlier) ∙ newest_behind line rows (q ∷ earlier)

  givers_behind : (line : ℕ) (rows earlier : List (Row n)) → givers (reverse rows ++ earlier) line ≡ givers_on line (length earlier) (givers earlier line) rows
  givers_behind line [] earlier = refl
  givers_behind line (q ∷ rows) earlier =
      let one : suc (length earlier) ≡ length earlier + 1 = omega arith in
      ap (λ xs. givers xs line) (turned q rows earlier) ∙ givers_behind line rows (q ∷ earlier)
      ∙ ap (λ k. givers_on line k (mark_row line (length earlier + 1) q (givers earlier line)) rows) one

  pub newest_forth : (line : ℕ) (rows : List (Row n)) → newest (reverse rows) line ≡ newest_on line (newest {n = n} [] line) rows
  newest_forth line rows = ap (λ xs. newest xs line) (sym (append-nil (reverse rows))) ∙ newest_behind line rows []

  pub givers_forth : (line : ℕ) (rows : List (Row n)) → givers (reverse rows) line ≡ givers_on line 0 (givers {n = n} [] line) rows
  givers_forth line rows = ap (λ xs. givers xs line) (sym (append-nil (reverse rows))) ∙ givers_behind line rows []

pub none_left : {A : Type 0} (i : ℕ) (xs : List A) → length xs ≤ i → drop i xs ≡ []
none_left zero [] le = refl
none_left (suc i) [] le = refl
none_left zero (x ∷ xs) le = absurd (omega (arith, le))
none_left (suc i) (x ∷ xs) le = none_left i xs (omega (arith, le))

module _ {n : ℕ} where
  pub newest_done : (line i : ℕ) (bytes : List ℕ) (rows : List (Row n)) → length rows ≤ i → newest_on line bytes (drop i rows) ≡ newest_on line (newest {n = n} [] line) rows
      → bytes ≡ newest (reverse rows) line
  newest_done line i bytes rows le left = ap (newest_on line bytes) (sym (none_left i rows le)) ∙ left ∙ sym (newest_forth line rows)

  pub givers_done : (line i number : ℕ) (numbers : List ℕ) (rows : List (Row n)) → length rows ≤ i → givers_on line number numbers (drop i rows) ≡ givers_on line 0 (givers {n = n} [] line) rows
      → numbers ≡ givers (reverse rows) line
  givers_done line i number numbers rows le left = ap (givers_on line number numbers) (sym (none_left i rows le)) ∙ left ∙ sym (givers_forth line rows)

-- of a fold over what is left of a list nothing is left in the end
pub done : {A B : Type 0} (f : B → List A → B) (i : ℕ) (found whole : B) (xs : List A) → ((b : B) → f b [] ≡ b) → length xs ≤ i → f found (drop i xs) ≡ whole → found ≡ whole
done f i found whole xs ends le left = sym (ends found) ∙ ap (f found) (sym (none_left i xs le)) ∙ left

-- what a fold finds, row for row
abbrev pub fold_on : {A B : Type 0} → (A → B → B) → B → List A → B
fold_on step found [] = found
fold_on step found (x ∷ xs) = fold_on step (step x found) xs

module _ {n : ℕ} {B : Type 0} (f : List (Row n) → B) (step : Row n → B → B) (steps : (q : Row n) (rows : List (Row n)) → f (q ∷ rows) ≡ step q (f rows)) where
  folds : (past : List (Numbered n)) (earlier : List (Row n)) → f (reverse (rows_of past) ++ earlier) ≡ fold_on (λ (one : Numbered n) b. step one.row b) (f earlier) past
  folds [] earlier = refl
  folds (one ∷ past) earlier =
      ap f (turned one.row (rows_of past) earlier) ∙ folds past (one.row ∷ earlier) ∙ ap (λ b. fold_on (λ (one : Numbered n) b. step one.row b) b past) (steps one.row earlier)

  -- in the end it is what is said of all, the newest first, and those before them
  pub fold_done : (i : ℕ) (found : B) (past : List (Numbered n)) (earlier : List (Row n)) → length past ≤ i
      → fold_on (λ (one : Numbered n) b. step one.row b) found (drop i past) ≡ fold_on (λ (one : Numbered n) b. step one.row b) (f earlier) past
      → found ≡ f (reverse (rows_of past) ++ earlier)
  fold_done i found past earlier le is = ap (fold_on (λ (one : Numbered n) b. step one.row b) found) (sym (none_left i past le)) ∙ is ∙ sym (folds past earlier)

  pub fold_all : (i : ℕ) (found : B) (past : List (Numbered n)) → length past ≤ i
      → fold_on (λ (one : Numbered n) b. step one.row b) found (drop i past) ≡ fold_on (λ (one : Numbered n) b. step one.row b) (f []) past
      → found ≡ f (reverse (rows_of past))
  fold_all i found past le is = fold_done i found past [] le is ∙ ap f (append-nil (reverse (rows_of past)))

-- counted in either order
pub count_told : {n : ℕ} (p : Row n → Bool) (past : List (Numbered n)) → count_by p (reverse (rows_of past)) ≡ count_by (λ one. p one.row) past
count_told p [] = refl
count_told p (one ∷ past) =
    let a = count_told p past in
    let b : count_by p (reverse (one.row ∷ rows_of past)) ≡ count_by p (reverse (rows_of past) ++ one.row ∷ []) = ap (count_by p) (reverse-append (one.row ∷ []) (rows_of past)) in
    let c = count-append p (reverse (rows_of past)) (one.row ∷ []) in
    let d = count-cons p one.row [] in
    let e = count-cons (λ (other : Numbered _). p other.row) one past in
    omega (arith, a, b, c, d, e)
