-- The rows that are listed, read one by one, as a loop does, against the cells of every array line.
use Rattle.std.proofs.Common.{◌≡◌, ℕ, zero, suc, ◌+◌, ◌-◌, ◌<◌, ◌≤◌, Bool, true, false, not, cond, ◌&&◌, ◌||◌, ◌==◌, ltb, nat_le, nat_lt, List, [], ◌∷◌, ◌++◌, length, take, drop, Ok, Err, refl, sym, ap, subst, ◌∙◌, append_assoc, arith, inl, inr}
use Rattle.std.{specs.Int.{w32, from_le_bytes}, specs.Prelude.IsFalse, proofs.lemmas.Bool.cases_Bool, proofs.lemmas.Bool.Decides.nat_tests, proofs.lemmas.List.append-nil}
use Rattle.masked_bytes.proofs.Truth.{and_first, and_second}
use Rattle.cell_rows.specs.{Rows.zero_row, declared.row.Cells.Cells}
use Rattle.pcm_image.specs.{Giving.Fails, Reading.{Cursor, Got, ◌>>=◌, fault, any, number_at, row_of}, Spelling.cells_bytes, declared.ImageFault.ImageFault}
use Rattle.pcm_image.{specs.declared.ImageKind.TheVariants.{Short, Line}, specs.declared.fields.ReadImage.ReadImage, proofs.Loop.with_front, proofs.Pairs.{failed_not, passed}}
use Rattle.pcm_image.specs.declared.fields.ReadImage.TheVariants as read
use Rattle.large_image.specs.Spelling.{are_zero, end_mark}
use Rattle.large_reader.specs.{Giving.{end_of, is_next}, Reading.{row_at, rows_at}, Rows.{AreListed, all_rows, listed}, declared.image.LargeRow.LargeRow}
use Rattle.large_reader.proofs.Listing.{not_below, not_same, is_same, listed_past, listed_more, listed_within, pushed_same, all_pushed, all_more}
use Rattle.large_reader.proofs.Steady.{field_steady, number_steady}

-- ---- the number of a line

-- the next four bytes as a number, and what is left behind them
abbrev number_of : Cursor → ℕ
number_of c = from_le_bytes w32 (take 4 c.left)

abbrev past : Cursor → Cursor
past c = record { at = c.at + 4; left = drop 4 c.left }

too_short : (test : ℕ → Bool) (c : Cursor) → ltb (length c.left) 4 ≡ true → number_at w32 Line test c ≡ fault c Short
too_short test c h = rw h refl

long_enough : (test : ℕ → Bool) (c : Cursor) → ltb (length c.left) 4 ≡ false → number_at w32 Line test c ≡ cond (test (number_of c)) (Ok (number_of c, past c)) (fault c Line)
long_enough test c h = rw h refl

-- a number that was read by one test passes another
record Was (test : ℕ → Bool) (c : Cursor) (x : ℕ × Cursor) : Type 0 where
  pub long : ltb (length c.left) 4 ≡ false
  pub passes : test (number_of c) ≡ true
  pub is : (number_of c, past c) ≡ x

was : (test : ℕ → Bool) (c : Cursor) (x : ℕ × Cursor) → number_at w32 Line test c ≡ Ok x → Was test c x
was test c x e =
    let g = failed_not (ltb (length c.left) 4) (record { at = c.at; kind = Short }) (cond (test (number_of c)) (Ok (number_of c, past c)) (fault c Line)) x e in
    let h = passed (test (number_of c)) (record { at = c.at; kind = Line }) (number_of c, past c) x g.1 in
    record { long = g.0; passes = h.0; is = h.1 }

number_again : (test other : ℕ → Bool) (c : Cursor) (x : ℕ × Cursor) → number_at w32 Line test c ≡ Ok x → other x.0 ≡ true → number_at w32 Line other c ≡ Ok x
number_again test other c x e h =
    let w = was test c x e in
    let passes : other (number_of c) ≡ true = subst (λ (y : ℕ × Cursor). other y.0 ≡ true) (sym w.is) h in
    long_enough other c w.long ∙ rw passes (ap (λ (y : ℕ × Cursor). Ok y) w.is)

abbrev good : ℕ × Cursor → Got ℕ
good x = Ok x

abbrev failed : ImageFault → Got ℕ
failed f = Err f

same_fault : (a b : ImageFault) → failed a ≡ failed b → a ≡ b
same_fault a b e = cc

ok_is_no_err : (x : ℕ × Cursor) (f : ImageFault) → good x ≡ failed f → ⊥
ok_is_no_err x f e = cc

-- ---- which numbers may stand there

bounds : (least count n : ℕ) → is_next least count n ≡ true → (n ≡ end_mark → ⊥) → (least ≤ n) × (n < count)
bounds least count n may no_mark =
    let both : (nat_le least n && nat_lt n count) ≡ true = rw (not_same n end_mark no_mark) at may in
    (le_of least n (and_first (nat_le least n) (nat_lt n count) both), lt_of n count (and_second (nat_le least n) (nat_lt n count) both))
  where
    le_of : (a b : ℕ) → nat_le a b ≡ true → a ≤ b
    le_of a b h = grind (arith, nat_tests)

    lt_of : (a b : ℕ) → nat_lt a b ≡ true → a < b
    lt_of a b h = grind (arith, nat_tests)

or_first : (a b : Bool) → (a || b) ≡ false → a ≡ false
or_first true b h = absurd cc
or_first false b h = refl

or_second : (a b : Bool) → (a || b) ≡ false → b ≡ false
or_second true b h = absurd cc
or_second false b h = h

-- a number that may not isn't one of the lines that may
outside : (least count n : ℕ) → is_next least count n ≡ false → (k : ℕ) → least ≤ k → k < count → (n == k) ≡ false
outside least count n never k low up =
    let isnt : (nat_le least n && nat_lt n count) ≡ false = or_second (n == end_mark) (nat_le least n && nat_lt n count) never in
    not_same n k (λ e. grind (arith, nat_tests))

module _ {B M : ℕ} where
  regroup : (front : List (Cells B M)) (row : Cells B M) (others : Got (List (Cells B M))) → with_front front (others >>= λ rest. Ok (row ∷ rest.0, rest.1)) ≡ with_front (front ++ row ∷ []) others
  regroup front row (Ok x) = ap (λ rows. Ok (rows, x.1)) (simp append_assoc)
  regroup front row (Err f) = refl

  -- ---- a line that isn't the next one that is listed

  skip : (rows : List (LargeRow B M)) (count line : ℕ) (c : Cursor) (x : ℕ × Cursor) → number_at w32 Line any c ≡ Ok x → (x.0 == line) ≡ false → listed rows line ≡ zero_row B M → line < count
      → with_front (all_rows line rows) (rows_at B M line (count - line) c) ≡ with_front (all_rows (line + 1) rows) (rows_at B M (line + 1) (count - (line + 1)) c)
  skip rows count line c x read other none lt =
      let e : count - line ≡ suc (count - (line + 1)) = omega (arith, lt) in
      let first : with_front (all_rows line rows) (rows_at B M line (count - line) c) ≡ with_front (all_rows line rows ++ zero_row B M ∷ []) (rows_at B M (line + 1) (count - (line + 1)) c)
      = rw (e, read, other) (regroup (all_rows line rows) (zero_row B M) (rows_at B M (line + 1) (count - (line + 1)) c)) in
      let more : all_rows line rows ++ zero_row B M ∷ [] ≡ all_rows (line + 1) rows = ap (λ (row : Cells B M). all_rows line rows ++ row ∷ []) (sym none) ∙ sym (all_more rows line) in
      first ∙ ap (λ (front : List (Cells B M)). with_front front (rows_at B M (line + 1) (count - (line + 1)) c)) more

  -- so many of them
  skips : (rows : List (LargeRow B M)) (count least line : ℕ) (c : Cursor) (x : ℕ × Cursor) (n : ℕ) → AreListed 0 least rows → least ≤ line → number_at w32 Line any c ≡ Ok x
      → ((k : ℕ) → line ≤ k → k < line + n → (x.0 == k) ≡ false) → line + n ≤ count
      → with_front (all_rows line rows) (rows_at B M line (count - line) c) ≡ with_front (all_rows (line + n) rows) (rows_at B M (line + n) (count - (line + n)) c)
  skips rows count least line c x zero are low read other le = let e : line + 0 ≡ line = omega arith in rw e refl
  skips rows count least line c x (suc n) are low read other le =
      let e : line + 1 + n ≡ line + suc n = omega arith in
      skip rows count line c x read (other line (omega arith) (omega arith)) (listed_past rows 0 least line are low) (omega (arith, le))
      ∙ rw e at (skips rows count least (line + 1) c x n are (omega (arith, low)) read (λ k l m. other k (omega (arith, l)) (omega (arith, m))) (omega (arith, le)))

  -- up to a line
  skips_to : (rows : List (LargeRow B M)) (count least line : ℕ) (c : Cursor) (x : ℕ × Cursor) → AreListed 0 least rows → least ≤ line → line ≤ count → number_at w32 Line any c ≡ Ok x
      → ((k : ℕ) → least ≤ k → k < line → (x.0 == k) ≡ false)
      → with_front (all_rows least rows) (rows_at B M least (count - least) c) ≡ with_front (all_rows line rows) (rows_at B M line (count - line) c)
  skips_to rows count least line c x are low le read other =
      let e : least + (line - least) ≡ line = omega (arith, low) in
      rw e at (skips rows count least least c x (line - least) are (omega arith) read (λ k l m. other k l (omega (arith, m, e))) (omega (arith, le, e)))

  -- ---- what was read, as a loop knows it

  pub record IsRead (count : ℕ) (begin c : Cursor) (least : ℕ) (rows : List (LargeRow B M)) : Type 0 where
    pub same : with_front (all_rows least rows) (rows_at B M least (count - least) c) ≡ rows_at B M 0 count begin
    pub within : least ≤ count
    pub are : AreListed 0 least rows
    pub end : end_of c ≡ end_of begin

  whole_front : (others : Got (List (Cells B M))) → with_front [] others ≡ others
  whole_front (Ok x) = refl
  whole_front (Err f) = refl

  pub begins : (count : ℕ) (c : Cursor) → IsRead count c c 0 []
  begins count c =
      let e : count - 0 ≡ count = omega arith in
      record { same = rw e (whole_front (rows_at B M 0 count c)); within = omega arith; are = tt; end = refl }

  -- ---- one line more

  pub next : (count : ℕ) (begin c : Cursor) (least : ℕ) (rows : List (LargeRow B M)) (x : ℕ × Cursor) (y : Cells B M × Cursor) → IsRead count begin c least rows
      → number_at w32 Line (is_next least count) c ≡ Ok x → is_next least count x.0 ≡ true → (x.0 ≡ end_mark → ⊥) → row_at B M x.1 ≡ Ok y → IsFalse (are_zero (cells_bytes y.0))
      → IsRead count begin y.1 (x.0 + 1) (rows ++ record { line = x.0; cells = y.0 } ∷ [])
  next count begin c least rows x y h numbered may no_mark row full =
      let b = bounds least count x.0 may no_mark in
      let read = number_again (is_next least count) any c x numbered refl in
      let made : LargeRow B M = record { line = x.0; cells = y.0 } in
      let e : count - x.0 ≡ suc (count - (x.0 + 1)) = omega (arith, b.1) in
      let others = rows_at B M (x.0 + 1) (count - (x.0 + 1)) y.1 in
      let here : with_front (all_rows x.0 rows) (rows_at B M x.0 (count - x.0) c) ≡ with_front (all_rows x.0 rows ++ y.0 ∷ []) others
      = rw (e, read, is_same x.0 x.0 refl, row) (regroup (all_rows x.0 rows) y.0 others) in
      let front : all_rows (x.0 + 1) (rows ++ made ∷ []) ≡ all_rows x.0 rows ++ y.0 ∷ [] =
      all_more (rows ++ made ∷ []) x.0 ∙ ap (λ (f : List (Cells B M)). f ++ listed (rows ++ made ∷ []) x.0 ∷ []) (all_pushed rows made x.0 (omega arith))
      ∙ ap (λ (r : Cells B M). all_rows x.0 rows ++ r ∷ []) (pushed_same rows 0 least made h.are b.0) in
      record {
        same = ap (λ (f : List (Cells B M)). with_front f others) front ∙ sym here ∙ sym (skips_to rows count least x.0 c x h.are b.0 (omega (arith, b.1)) read (λ k l m. not_below x.0 k m)) ∙ h.same;
        within = omega (arith, b.1);
        are = listed_more rows 0 least made h.are (omega arith) b.0 full;
        end = field_steady (B + M) Line (λ bytes. not (are_zero bytes)) (row_of B M) x.1 y row ∙ number_steady w32 Line (is_next least count) c x numbered ∙ h.end;
      }

  -- ---- the end

  -- no number from the least on is that which stands there
  passed_all : (count : ℕ) (begin c : Cursor) (least : ℕ) (rows : List (LargeRow B M)) (x : ℕ × Cursor) → IsRead count begin c least rows → number_at w32 Line any c ≡ Ok x
      → ((k : ℕ) → least ≤ k → k < count → (x.0 == k) ≡ false) → rows_at B M 0 count begin ≡ with_front (all_rows count rows) (rows_at B M count 0 c)
  passed_all count begin c least rows x h read other =
      let e : count - count ≡ 0 = omega arith in
      sym h.same ∙ rw e at (skips_to rows count least count c x h.are h.within (omega arith) read other)

  pub ends_at : (count : ℕ) (begin c : Cursor) (least : ℕ) (rows : List (LargeRow B M)) (x : ℕ × Cursor) → count ≤ end_mark → IsRead count begin c least rows
      → number_at w32 Line (is_next least count) c ≡ Ok x → x.0 ≡ end_mark → rows_at B M 0 count begin ≡ Ok (all_rows count rows, x.1)
  ends_at count begin c least rows x few h numbered mark =
      let read = number_again (is_next least count) any c x numbered refl in
      let marked = number_again (is_next least count) (λ n. n == end_mark) c x numbered (is_same x.0 end_mark mark) in
      let last : with_front (all_rows count rows) (rows_at B M count 0 c) ≡ Ok (all_rows count rows, x.1) = rw marked (ap (λ (f : List (Cells B M)). Ok (f, x.1)) (append-nil (all_rows count rows))) in
      passed_all count begin c least rows x h read (λ k l m. not_below x.0 k (omega (arith, m, few, mark))) ∙ last

  -- ---- a field that fails

  short_rows : (front : List (Cells B M)) (line n : ℕ) (c : Cursor) → ltb (length c.left) 4 ≡ true → with_front front (rows_at B M line n c) ≡ fault c Short
  short_rows front line zero c h = rw (too_short (λ n. n == end_mark) c h) refl
  short_rows front line (suc n) c h = rw (too_short any c h) refl

  pub line_fails : (e : ReadImage) (count : ℕ) (begin c : Cursor) (least : ℕ) (rows : List (LargeRow B M)) → IsRead count begin c least rows
      → Fails e (number_at w32 Line (is_next least count) c) → Fails e (rows_at B M 0 count begin)
  line_fails read.NoMemory count begin c least rows h fails = tt
  line_fails (read.Bad f) count begin c least rows h fails =
      elim (cases_Bool (ltb (length c.left) 4)) [
        | inl short ↦
            let is : record { at = c.at; kind = Short } ≡ f = same_fault (record { at = c.at; kind = Short }) f (sym (too_short (is_next least count) c short) ∙ fails) in
            sym h.same ∙ short_rows (all_rows least rows) least (count - least) c short ∙ ap (λ (g : ImageFault). Err g) is
        | inr long ↦ elim (cases_Bool (is_next least count (number_of c))) [
          | inl may ↦
              let good : number_at w32 Line (is_next least count) c ≡ Ok (number_of c, past c) = long_enough (is_next least count) c long ∙ rw may refl in
              absurd (ok_is_no_err (number_of c, past c) f (sym good ∙ fails))
          | inr never ↦
              let bad : number_at w32 Line (is_next least count) c ≡ fault c Line = long_enough (is_next least count) c long ∙ rw never refl in
              let is : record { at = c.at; kind = Line } ≡ f = same_fault (record { at = c.at; kind = Line }) f (sym bad ∙ fails) in
              let unmarked : (number_of c == end_mark) ≡ false = or_first (number_of c == end_mark) (nat_le least (number_of c) && nat_lt (number_of c) count) never in
              let last : number_at w32 Line (λ n. n == end_mark) c ≡ fault c Line = long_enough (λ n. n == end_mark) c long ∙ rw unmarked refl in
              passed_all count begin c least rows (number_of c, past c) h (long_enough any c long) (outside least count (number_of c) never)
              ∙ rw last (ap (λ (g : ImageFault). Err g) is)
        ]
      ]

  pub row_fails : (e : ReadImage) (count : ℕ) (begin c : Cursor) (least : ℕ) (rows : List (LargeRow B M)) (x : ℕ × Cursor) → IsRead count begin c least rows
      → number_at w32 Line (is_next least count) c ≡ Ok x → is_next least count x.0 ≡ true → (x.0 ≡ end_mark → ⊥) → Fails e (row_at B M x.1) → Fails e (rows_at B M 0 count begin)
  row_fails read.NoMemory count begin c least rows x h numbered may no_mark fails = tt
  row_fails (read.Bad f) count begin c least rows x h numbered may no_mark fails =
      let b = bounds least count x.0 may no_mark in
      let read = number_again (is_next least count) any c x numbered refl in
      let e : count - x.0 ≡ suc (count - (x.0 + 1)) = omega (arith, b.1) in
      let here : with_front (all_rows x.0 rows) (rows_at B M x.0 (count - x.0) c) ≡ Err f = rw (e, read, is_same x.0 x.0 refl, fails) refl in
      sym h.same ∙ skips_to rows count least x.0 c x h.are b.0 (omega (arith, b.1)) read (λ k l m. not_below x.0 k m) ∙ here

  -- what was read is listed in order
  pub are_listed : (count : ℕ) (begin c : Cursor) (least : ℕ) (rows : List (LargeRow B M)) → IsRead count begin c least rows → AreListed 0 count rows
  are_listed count begin c least rows h = listed_within rows 0 least count h.are h.within
