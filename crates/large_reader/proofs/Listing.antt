-- The rows that are listed: which array lines they are of, in order, and what is found by the number of a line.
use Rattle.std.proofs.Common.{◌≡◌, ℕ, zero, suc, ◌+◌, ◌<◌, ◌≤◌, true, false, cond, ◌==◌, List, [], ◌∷◌, ◌++◌, length, get_or, refl, ap, ◌∙◌, arith, inl, inr}
use Rattle.std.{specs.Prelude.IsFalse, proofs.lemmas.Bool.cases_lt, proofs.lemmas.Bool.Decides.nat_tests, proofs.lemmas.List.get_or_default}
use Rattle.std.proofs.lemmas.List.FromFn.{map-range_with_len_more, get_or-map-range_with_len, length-map-range_with_len, fill_by_all}
use Rattle.cell_rows.specs.{Rows.zero_row, declared.row.Cells.Cells}
use Rattle.pcm_image.specs.Spelling.{cells_bytes}
use Rattle.large_image.specs.Spelling.{are_zero}
use Rattle.large_reader.specs.{Rows.{AreListed, all_rows, listed}, declared.image.LargeRow.LargeRow}

-- one number isn't another that is greater, nor one that is less; and is itself
pub not_above : (a b : ℕ) → a < b → (a == b) ≡ false
not_above a b h = grind (arith, nat_tests)

pub not_below : (a b : ℕ) → b < a → (a == b) ≡ false
not_below a b h = grind (arith, nat_tests)

pub is_same : (a b : ℕ) → a ≡ b → (a == b) ≡ true
is_same a b h = grind (arith, nat_tests)

pub not_same : (a b : ℕ) → (a ≡ b → ⊥) → (a == b) ≡ false
not_same a b h =
    elim (cases_lt a b) [
      | inl less ↦ not_above a b less
      | inr more ↦ elim (cases_lt b a) [ inl less ↦ not_below a b less | inr same ↦ absurd (h (omega (arith, more, same))) ]
    ]

module _ {B M : ℕ} where
  -- no row is of an array line behind all of them
  pub listed_past : (rows : List (LargeRow B M)) (least n line : ℕ) → AreListed least n rows → n ≤ line → listed rows line ≡ zero_row B M
  listed_past [] least n line h le = refl
  listed_past (row ∷ rows) least n line h le = rw (not_above row.line line (omega (arith, h.1, le))) (listed_past rows (row.line + 1) n line h.3 le)

  -- one row more, behind the others
  pub listed_more : (rows : List (LargeRow B M)) (least n : ℕ) (row : LargeRow B M) → AreListed least n rows → least ≤ row.line → n ≤ row.line → IsFalse (are_zero (cells_bytes row.cells))
      → AreListed least (row.line + 1) (rows ++ row ∷ [])
  listed_more [] least n row h low past full = (low, omega arith, full, tt)
  listed_more (first ∷ rows) least n row h low past full = (h.0, omega (arith, h.1, past), h.2, listed_more rows (first.line + 1) n row h.3 (omega (arith, h.1, past)) past full)

  -- lines below a number are below a greater one
  pub listed_within : (rows : List (LargeRow B M)) (least n most : ℕ) → AreListed least n rows → n ≤ most → AreListed least most rows
  listed_within [] least n most h le = tt
  listed_within (row ∷ rows) least n most h le = (h.0, omega (arith, h.1, le), h.2, listed_within rows (row.line + 1) n most h.3 le)

  pub pushed_same : (rows : List (LargeRow B M)) (least n : ℕ) (row : LargeRow B M) → AreListed least n rows → n ≤ row.line → listed (rows ++ row ∷ []) row.line ≡ row.cells
  pushed_same [] least n row h past = rw (is_same row.line row.line refl) refl
  pushed_same (first ∷ rows) least n row h past = rw (not_above first.line row.line (omega (arith, h.1, past))) (pushed_same rows (first.line + 1) n row h.3 past)

  pub pushed_other : (rows : List (LargeRow B M)) (row : LargeRow B M) (line : ℕ) → line < row.line → listed (rows ++ row ∷ []) line ≡ listed rows line
  pushed_other [] row line lt = rw (not_below row.line line lt) refl
  pushed_other (first ∷ rows) row line lt = ap (λ (t : Cells B M). cond (first.line == line) first.cells t) (pushed_other rows row line lt)

  -- a row that is pushed changes no line below its own
  pub all_pushed : (rows : List (LargeRow B M)) (row : LargeRow B M) (n : ℕ) → n ≤ row.line → all_rows n (rows ++ row ∷ []) ≡ all_rows n rows
  all_pushed rows row n le =
      fill_by_all (listed rows) (all_rows n (rows ++ row ∷ [])) n (zero_row B M) (length-map-range_with_len (listed (rows ++ row ∷ [])) 0 n)
      (λ k lt. get_or-map-range_with_len (listed (rows ++ row ∷ [])) 0 n k k (zero_row B M) lt (omega arith) ∙ pushed_other rows row k (omega (arith, lt, le)))

  pub all_more : (rows : List (LargeRow B M)) (n : ℕ) → all_rows (n + 1) rows ≡ all_rows n rows ++ listed rows n ∷ []
  all_more rows n = map-range_with_len_more (listed rows) 0 n n (omega arith)

  -- each line is at least the least, and lower than those behind it
  all_from : (rows : List (LargeRow B M)) (least n j : ℕ) (d : LargeRow B M) → AreListed least n rows → j < length rows → least ≤ (get_or rows j d).line
  all_from [] least n j d h lt = absurd (omega arith)
  all_from (row ∷ rows) least n zero d h lt = h.0
  all_from (row ∷ rows) least n (suc j) d h lt = let rest = all_from rows (row.line + 1) n j d h.3 (omega (arith, lt)) in omega (arith, rest, h.0)

  rises : (rows : List (LargeRow B M)) (least n i j : ℕ) (d : LargeRow B M) → AreListed least n rows → i < j → j < length rows → (get_or rows i d).line < (get_or rows j d).line
  rises [] least n i j d h less lt = absurd (omega arith)
  rises (row ∷ rows) least n i zero d h less lt = absurd (omega arith)
  rises (row ∷ rows) least n zero (suc j) d h less lt = let rest = all_from rows (row.line + 1) n j d h.3 (omega (arith, lt)) in omega (arith, rest)
  rises (row ∷ rows) least n (suc i) (suc j) d h less lt = rises rows (row.line + 1) n i j d h.3 (omega (arith, less)) (omega (arith, lt))

  pub in_order : (rows : List (LargeRow B M)) (n i j : ℕ) (d : LargeRow B M) → AreListed 0 n rows → i ≤ j → j < length rows → (get_or rows i d).line ≤ (get_or rows j d).line
  in_order rows n i j d h le lt =
      elim (cases_lt i j) [
        | inl less ↦ let up = rises rows 0 n i j d h less lt in omega (arith, up)
        | inr more ↦ let e : i ≡ j = omega (arith, le, more) in rw e (omega arith)
      ]

  -- the rows up to a lower one are lower, and those from another on aren't
  pub lower : (rows : List (LargeRow B M)) (n i j line : ℕ) (d e : LargeRow B M) → AreListed 0 n rows → i ≤ j → j < length rows → (get_or rows j e).line < line → (get_or rows i d).line < line
  lower rows n i j line d e h le lt up =
      let order = in_order rows n i j d h le lt in
      let same = ap (λ (row : LargeRow B M). row.line) (get_or_default rows j d e lt) in
      omega (arith, order, same, up)

  pub upper : (rows : List (LargeRow B M)) (n i j line : ℕ) (d e : LargeRow B M) → AreListed 0 n rows → i ≤ j → j < length rows → line ≤ (get_or rows i e).line → line ≤ (get_or rows j d).line
  upper rows n i j line d e h le lt low =
      let order = in_order rows n i j d h le lt in
      let same = ap (λ (row : LargeRow B M). row.line) (get_or_default rows i d e (omega (arith, le, lt))) in
      omega (arith, order, same, low)

  pub other_row : (rows : List (LargeRow B M)) (j line : ℕ) (d e : LargeRow B M) → j < length rows → (get_or rows j e).line ≡ line → (get_or rows j d).line ≡ line
  other_row rows j line d e lt is = ap (λ (row : LargeRow B M). row.line) (get_or_default rows j d e lt) ∙ is

  pub other_not : (rows : List (LargeRow B M)) (j line : ℕ) (d e : LargeRow B M) → j < length rows → ((get_or rows j e).line ≡ line → ⊥) → ((get_or rows j d).line == line) ≡ false
  other_not rows j line d e lt isnt = not_same (get_or rows j d).line line (λ is. isnt (other_row rows j line e d lt is))

  -- the row of a line is the one that is found, and where none is of it there is none
  pub found : (rows : List (LargeRow B M)) (least n at line : ℕ) (d : LargeRow B M) → AreListed least n rows → at < length rows → (get_or rows at d).line ≡ line → listed rows line ≡ (get_or rows at d).cells
  found [] least n at line d h lt e = absurd (omega arith)
  found (row ∷ rows) least n zero line d h lt e = rw (is_same row.line line e) refl
  found (row ∷ rows) least n (suc at) line d h lt e =
      let past = all_from rows (row.line + 1) n at d h.3 (omega (arith, lt)) in
      rw (not_above row.line line (omega (arith, past, e))) (found rows (row.line + 1) n at line d h.3 (omega (arith, lt)) e)

  missing : (rows : List (LargeRow B M)) (line : ℕ) (d : LargeRow B M) → ((k : ℕ) → k < length rows → ((get_or rows k d).line == line) ≡ false) → listed rows line ≡ zero_row B M
  missing [] line d h = refl
  missing (row ∷ rows) line d h = rw (h 0 (omega arith)) (missing rows line d (λ k lt. h (suc k) (omega (arith, lt))))

  -- the rows before a place are of lower lines, those from it on of others that aren't lower, and that at the place isn't of the line
  pub not_there : (rows : List (LargeRow B M)) (n place line : ℕ) (d : LargeRow B M) → AreListed 0 n rows → ((k : ℕ) → k < place → (get_or rows k d).line < line)
      → ((k : ℕ) → place ≤ k → k < length rows → line ≤ (get_or rows k d).line) → (place < length rows → ((get_or rows place d).line == line) ≡ false) → listed rows line ≡ zero_row B M
  not_there rows n place line d h below above other = missing rows line d each
    where
      each : (k : ℕ) → k < length rows → ((get_or rows k d).line == line) ≡ false
      each k lt =
          elim (cases_lt k place) [
            | inl less ↦ not_above (get_or rows k d).line line (below k less)
            | inr past ↦ elim (cases_lt place k) [
              | inl more ↦
                  let low = above place (omega arith) (omega (arith, more, lt)) in
                  let up = rises rows 0 n place k d h more lt in
                  not_below (get_or rows k d).line line (omega (arith, low, up))
              | inr same ↦ let e : k ≡ place = omega (arith, past, same) in rw e (other (omega (arith, lt, e)))
            ]
          ]
