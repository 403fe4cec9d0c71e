-- The array lines of which a cell is 1: what is read is what was written, and what was written is read again.
use Rattle.std.proofs.Common.{◌≡◌, ℕ, zero, suc, ◌+◌, ◌^◌, ◌≤◌, Bool, true, false, not, ◌&&◌, ◌==◌, List, [], ◌∷◌, ◌++◌, length, Ok, refl, sym, ap, subst, ◌∙◌, append_assoc, arith, inl, inr}
use Rattle.std.{specs.Int.w32, specs.List.AllByRecursion, specs.Prelude.replicate, proofs.lemmas.Bool.{cases_Bool, eqb-true}}
use Rattle.std.proofs.{lemmas.List.{take_at, drop_at, take-append-drop, length-append, length-take, length-drop, length-replicate}, lemmas.List.Folds.list_all-append}
use Rattle.masked_bytes.proofs.Truth.{and_first, and_second}
use Rattle.cell_rows.specs.{Rows.zero_row, declared.row.Cells.Cells}
use Rattle.pcm_image.specs.{Reading.{Cursor, any, number_at, row_of}, Spelling.{u32, cells_bytes}, declared.ImageKind.TheVariants.Line}
use Rattle.pcm_image.proofs.Pairs.{IsBytes, bound, ok_is, Takes, Takes-then, IsPair, IsField, field_pair, Passes, number_pair, wide32}
use Rattle.large_image.specs.Spelling.{are_zero, rows_bytes, end_mark}
use Rattle.large_reader.{specs.Reading.{row_at, rows_at}, proofs.Listing.{not_below, is_same}}

abbrev pub RowFits : (B M : ℕ) → Cells B M → Type 0
RowFits B M row = (length row.bits ≡ B) × (length row.meta ≡ M)

-- ---- rows of zeros

zeros : (bytes : List ℕ) (n : ℕ) → length bytes ≡ n → are_zero bytes ≡ true → bytes ≡ replicate n 0
zeros [] zero len h = refl
zeros [] (suc n) len h = absurd (omega (arith, len))
zeros (b ∷ bytes) zero len h = absurd (omega (arith, len))
zeros (b ∷ bytes) (suc n) len h =
    let first : b ≡ 0 = eqb-true b 0 (and_first (b == 0) (are_zero bytes) h) in
    let rest = zeros bytes n (omega (arith, len)) (and_second (b == 0) (are_zero bytes) h) in
    ap (λ (x : ℕ). x ∷ bytes) first ∙ ap (λ (xs : List ℕ). 0 ∷ xs) rest

zero_list : (n : ℕ) → are_zero (replicate n 0) ≡ true
zero_list zero = refl
zero_list (suc n) = zero_list n

module _ (B M : ℕ) where
  zero_is : (row : Cells B M) → RowFits B M row → are_zero (cells_bytes row) ≡ true → zero_row B M ≡ row
  zero_is row fit h =
      let both : (are_zero row.bits && are_zero row.meta) ≡ true = sym (list_all-append (λ byte. byte == 0) row.bits row.meta) ∙ h in
      let bits = zeros row.bits B fit.0 (and_first (are_zero row.bits) (are_zero row.meta) both) in
      let meta = zeros row.meta M fit.1 (and_second (are_zero row.bits) (are_zero row.meta) both) in
      let made : Cells B M = record { bits = row.bits; meta = row.meta } in
      let is : made ≡ zero_row B M =
      ap (λ (xs : List ℕ). let made : Cells B M = record { bits = xs; meta = row.meta } in made) bits
      ∙ ap (λ (xs : List ℕ). let made : Cells B M = record { bits = replicate B 0; meta = xs } in made) meta in
      sym is

  zero_blank : are_zero (cells_bytes (zero_row B M)) ≡ true
  zero_blank = list_all-append (λ byte. byte == 0) (replicate B 0) (replicate M 0) ∙ rw (zero_list B, zero_list M) refl

  zero_fits : RowFits B M (zero_row B M)
  zero_fits = (length-replicate B 0, length-replicate M 0)

  -- how rows are spelled, the first of them blank or not
  blank_first : (line : ℕ) (row : Cells B M) (rows : List (Cells B M)) → are_zero (cells_bytes row) ≡ true → rows_bytes line (row ∷ rows) ≡ rows_bytes (line + 1) rows
  blank_first line row rows h = rw h refl

  full_first : (line : ℕ) (row : Cells B M) (rows : List (Cells B M)) (rest : List ℕ) → are_zero (cells_bytes row) ≡ false
      → rows_bytes line (row ∷ rows) ++ rest ≡ u32 line ++ (cells_bytes row ++ (rows_bytes (line + 1) rows ++ rest))
  full_first line row rows rest h =
      let text : rows_bytes line (row ∷ rows) ≡ (u32 line ++ cells_bytes row) ++ rows_bytes (line + 1) rows = rw h refl in
      ap (λ (t : List ℕ). t ++ rest) text ∙ append_assoc (u32 line ++ cells_bytes row) (rows_bytes (line + 1) rows) rest ∙ append_assoc (u32 line) (cells_bytes row) (rows_bytes (line + 1) rows ++ rest)

  -- ---- a row

  abbrev Full : Cells B M → Type 0
  Full row = RowFits B M row × (are_zero (cells_bytes row) ≡ false)

  not_true : (b : Bool) → not b ≡ true → b ≡ false
  not_true true h = absurd cc
  not_true false h = refl

  row_field : IsField (B + M) (λ bytes. not (are_zero bytes)) (row_of B M) cells_bytes Full
  row_field = record {
    back = λ bytes len small is. (take-append-drop B bytes, ((omega (arith, length-take B bytes, len), omega (arith, length-drop B bytes, len)), rw (take-append-drop B bytes) (not_true (are_zero bytes) is)));
    len = λ row fit. omega (arith, length-append row.bits row.meta, fit.0.0, fit.0.1);
    passes = λ row fit. rw fit.1 refl;
    same = λ row fit. rw (take_at row.bits row.meta B fit.0.0, drop_at row.bits row.meta B fit.0.0) refl;
  }

  row_pair : IsPair (row_at B M) cells_bytes Full
  row_pair = field_pair (B + M) Line (λ bytes. not (are_zero bytes)) (row_of B M) cells_bytes Full row_field

  mark_pair : IsPair (number_at w32 Line (λ n. n == end_mark)) u32 (Passes (2 ^ 32) (λ n. n == end_mark))
  mark_pair = number_pair w32 (2 ^ 32) Line (λ n. n == end_mark) wide32

  line_pair : IsPair (number_at w32 Line any) u32 (Passes (2 ^ 32) any)
  line_pair = number_pair w32 (2 ^ 32) Line any wide32

  -- ---- all of them

  abbrev pub AreTaken : ℕ → ℕ → Cursor → List (Cells B M) × Cursor → Type 0
  AreTaken line n c x = Takes c (rows_bytes line x.0 ++ u32 end_mark) x.1 × (length x.0 ≡ n) × AllByRecursion (RowFits B M) x.0

  none_taken : (line : ℕ) (c : Cursor) (x : List (Cells B M) × Cursor) → IsBytes c.left → rows_at B M line 0 c ≡ Ok x → AreTaken line 0 c x
  none_taken line c x small e =
      bound _ _ x _ e (λ x0 e0 n0.
      let t = mark_pair.takes c x0 small e0 in
      subst (AreTaken line 0 c) (ok_is ([], x0.1) x n0) (subst (λ (k : ℕ). Takes c (u32 k) x0.1) (eqb-true x0.0 end_mark t.1.1) t.0, refl, tt))

  -- a row that is listed, and the others behind it
  full_taken : (line n : ℕ) (c c0 c1 : Cursor) (row : Cells B M) (x : List (Cells B M) × Cursor) → Takes c (u32 line) c0 → Takes c0 (cells_bytes row) c1 × Full row → AreTaken (line + 1) n c1 x → AreTaken line (suc n) c (row ∷ x.0, x.1)
  full_taken line n c c0 c1 row x t0 t1 t2 =
      let whole = Takes-then c (u32 line) c0 (cells_bytes row ++ (rows_bytes (line + 1) x.0 ++ u32 end_mark)) x.1 t0 (Takes-then c0 (cells_bytes row) c1 (rows_bytes (line + 1) x.0 ++ u32 end_mark) x.1 t1.0 t2.0) in
      (subst (λ (t : List ℕ). Takes c t x.1) (sym (full_first line row x.0 (u32 end_mark) t1.1.1)) whole, ap suc t2.1, (t1.1.0, t2.2))

  -- one that isn't
  blank_taken : (line n : ℕ) (c : Cursor) (x : List (Cells B M) × Cursor) → AreTaken (line + 1) n c x → AreTaken line (suc n) c (zero_row B M ∷ x.0, x.1)
  blank_taken line n c x t =
      (subst (λ (bytes : List ℕ). Takes c (bytes ++ u32 end_mark) x.1) (sym (blank_first line (zero_row B M) x.0 zero_blank)) t.0, ap suc t.1, (zero_fits, t.2))

  pub rows_takes : (n line : ℕ) (c : Cursor) (x : List (Cells B M) × Cursor) → IsBytes c.left → rows_at B M line n c ≡ Ok x → AreTaken line n c x
  rows_takes zero line c x small e = none_taken line c x small e
  rows_takes (suc n) line c x small e =
      bound _ _ x _ e (λ x0 e0 n0.
      let t0 = line_pair.takes c x0 small e0 in
      elim (cases_Bool (x0.0 == line)) [
        | inl here ↦
            let listed = rw here at n0 in
            bound _ _ x _ listed (λ x1 e1 n1. bound _ _ x _ n1 (λ x2 e2 n2.
            let first = subst (λ (k : ℕ). Takes c (u32 k) x0.1) (eqb-true x0.0 line here) t0.0 in
            let t1 = row_pair.takes x0.1 x1 t0.0.rest_fits e1 in
            let t2 = rows_takes n (line + 1) x1.1 x2 t1.0.rest_fits e2 in
            subst (AreTaken line (suc n) c) {x = (x1.0 ∷ x2.0, x2.1)} (ok_is (x1.0 ∷ x2.0, x2.1) x n2) (full_taken line n c x0.1 x1.1 x1.0 x2 first t1 t2)))
        | inr elsewhere ↦
            let unlisted = rw elsewhere at n0 in
            bound _ _ x _ unlisted (λ x1 e1 n1.
            subst (AreTaken line (suc n) c) {x = (zero_row B M ∷ x1.0, x1.1)} (ok_is (zero_row B M ∷ x1.0, x1.1) x n1) (blank_taken line n c x1 (rows_takes n (line + 1) c x1 small e1)))
      ])

  -- the first number that stands there is of none of the lines before
  follows : (rows : List (Cells B M)) (line : ℕ) (c : Cursor) (rest : List ℕ) → line + length rows ≤ end_mark → c.left ≡ rows_bytes line rows ++ (u32 end_mark ++ rest)
      → (x : ℕ × Cursor) × (number_at w32 Line any c ≡ Ok x) × (line ≤ x.0)
  follows [] line c rest few e =
      let a = line_pair.again end_mark c rest (omega arith, refl) e in
      ((end_mark, a.0), a.1, omega (arith, few))
  follows (row ∷ rows) line c rest few e =
      elim (cases_Bool (are_zero (cells_bytes row))) [
        | inl blank ↦
            let a = follows rows (line + 1) c rest (omega (arith, few)) (e ∙ ap (λ (t : List ℕ). t ++ (u32 end_mark ++ rest)) (blank_first line row rows blank)) in
            (a.0, a.1, omega (arith, a.2))
        | inr full ↦
            let a = line_pair.again line c (cells_bytes row ++ (rows_bytes (line + 1) rows ++ (u32 end_mark ++ rest))) (omega (arith, few), refl) (e ∙ full_first line row rows (u32 end_mark ++ rest) full) in
            ((line, a.0), a.1, omega arith)
      ]

  -- the fields of a row that is listed, and the others, one behind another
  rows_read : (line n : ℕ) (c c0 c1 c2 : Cursor) (row : Cells B M) (rows : List (Cells B M)) → number_at w32 Line any c ≡ Ok (line, c0) → row_at B M c0 ≡ Ok (row, c1) → rows_at B M (line + 1) n c1 ≡ Ok (rows, c2)
      → rows_at B M line (suc n) c ≡ Ok (row ∷ rows, c2)
  rows_read line n c c0 c1 c2 row rows p0 p1 p2 = rw (p0, is_same line line refl, p1, p2) refl

  pub rows_again : (rows : List (Cells B M)) (line : ℕ) (c : Cursor) (rest : List ℕ) → AllByRecursion (RowFits B M) rows → line + length rows ≤ end_mark → c.left ≡ rows_bytes line rows ++ (u32 end_mark ++ rest)
      → (after : Cursor) × (rows_at B M line (length rows) c ≡ Ok (rows, after)) × (after.left ≡ rest)
  rows_again [] line c rest fit few e =
      let a = mark_pair.again end_mark c rest (omega arith, is_same end_mark end_mark refl) e in
      (a.0, rw a.1 refl, a.2)
  rows_again (row ∷ rows) line c rest fit few e =
      elim (cases_Bool (are_zero (cells_bytes row))) [
        | inl blank ↦
            let left : c.left ≡ rows_bytes (line + 1) rows ++ (u32 end_mark ++ rest) = e ∙ ap (λ (t : List ℕ). t ++ (u32 end_mark ++ rest)) (blank_first line row rows blank) in
            let f = follows rows (line + 1) c rest (omega (arith, few)) left in
            let a = rows_again rows (line + 1) c rest fit.1 (omega (arith, few)) left in
            let other : (f.0.0 == line) ≡ false = not_below f.0.0 line (omega (arith, f.2)) in
            (a.0, rw (f.1, other, a.1) (ap (λ (first : Cells B M). Ok (first ∷ rows, a.0)) (zero_is row fit.0 blank)), a.2)
        | inr full ↦
            let a = line_pair.again line c (cells_bytes row ++ (rows_bytes (line + 1) rows ++ (u32 end_mark ++ rest))) (omega (arith, few), refl) (e ∙ full_first line row rows (u32 end_mark ++ rest) full) in
            let b = row_pair.again row a.0 (rows_bytes (line + 1) rows ++ (u32 end_mark ++ rest)) (fit.0, full) a.2 in
            let d = rows_again rows (line + 1) b.0 rest fit.1 (omega (arith, few)) b.2 in
            (d.0, rows_read line (length rows) c a.0 b.0 d.0 row rows a.1 b.1 d.1, d.2)
      ]
