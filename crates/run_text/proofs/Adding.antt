-- The ten counts of a table add up to its rows, and some row falls short where a count says so.
use Rattle.std.proofs.Common.{ℕ, ◌+◌, ◌≡◌, Bool, true, false, ◌||◌, cond, nat_lt, List, [], ◌∷◌, length, count_by, zero-add, ap, sym, ◌∙◌, refl, arith}
use Rattle.std.{specs.List.list_any, proofs.lemmas.Bool.{lt-ltb, or_parts}}
use Rattle.masked_bytes.proofs.Counting.{count-cons, one_if}
use Rattle.result_rows.specs.declared.Outcome.{Outcome}
use Rattle.result_rows.specs.declared.Outcome.TheVariants as out
use Rattle.row_rules.specs.Answers.{is_stored, is_merged, is_queued, is_full, is_worn, is_answered, is_forwarded, is_busy, is_lost}
use Rattle.run_text.specs.{Counting.{is_cut, counts_of}, Laws.{is_unset, rows_counted, rows_short, EachRowIsCountedOnce, ShortRowsAreCounted}, Shortfall.is_short}

-- none of a list that has none passes a test
none-counted : {X : Type 0} (p : X → Bool) (xs : List X) → list_any p xs ≡ false → count_by p xs ≡ 0
none-counted p [] none = refl
none-counted p (x ∷ xs) none =
    let parts = or_parts (p x) (list_any p xs) none in
    let first : one_if (p x) ≡ 0 = ap one_if parts.0 in
    omega (arith, count-cons p x xs, first, none-counted p xs parts.1)

module _ {n : ℕ} where
  -- 1 for an outcome that passes a test, and else 0
  abbrev is_one : (Outcome n → Bool) → Outcome n → ℕ
  is_one p x = one_if (p x)

  -- a row has one outcome, or is open
  once : (x : Outcome n) → is_one is_stored x + is_one is_merged x + is_one is_queued x + is_one is_full x + is_one is_worn x + is_one is_answered x + is_one is_forwarded x + is_one is_busy x + is_one is_lost x + is_one is_cut x + is_one is_unset x ≡ 1
  once out.Unset = refl
  once (out.Stored tick place) = refl
  once (out.Merged tick) = refl
  once (out.Queued tick) = refl
  once (out.Full tick) = refl
  once (out.Worn tick) = refl
  once (out.Read tick place bytes) = refl
  once (out.Forwarded tick bytes) = refl
  once (out.Busy tick) = refl
  once (out.Lost tick) = refl
  once (out.Cut tick) = refl

  -- the rows that are counted, and those that are open, are all
  pub all-counted : (xs : List (Outcome n)) → rows_counted (counts_of xs) + count_by is_unset xs ≡ length xs
  all-counted [] = refl
  all-counted (x ∷ xs) = omega (
    arith,
    all-counted xs,
    once x,
    count-cons is_stored x xs,
    count-cons is_merged x xs,
    count-cons is_queued x xs,
    count-cons is_full x xs,
    count-cons is_worn x xs,
    count-cons is_answered x xs,
    count-cons is_forwarded x xs,
    count-cons is_busy x xs,
    count-cons is_lost x xs,
    count-cons is_cut x xs,
    count-cons is_unset x xs,
  )

  short-once : (x : Outcome n) → is_one is_queued x + is_one is_full x + is_one is_worn x + is_one is_busy x + is_one is_lost x ≡ cond (is_short x) 1 0
  short-once out.Unset = refl
  short-once (out.Stored tick place) = refl
  short-once (out.Merged tick) = refl
  short-once (out.Queued tick) = refl
  short-once (out.Full tick) = refl
  short-once (out.Worn tick) = refl
  short-once (out.Read tick place bytes) = refl
  short-once (out.Forwarded tick bytes) = refl
  short-once (out.Busy tick) = refl
  short-once (out.Lost tick) = refl
  short-once (out.Cut tick) = refl

  short-cons : (x : Outcome n) (xs : List (Outcome n)) → rows_short (counts_of (x ∷ xs)) ≡ (is_one is_queued x + is_one is_full x + is_one is_worn x + is_one is_busy x + is_one is_lost x) + rows_short (counts_of xs)
  short-cons x xs = omega (
    arith,
    count-cons is_queued x xs,
    count-cons is_full x xs,
    count-cons is_worn x xs,
    count-cons is_busy x xs,
    count-cons is_lost x xs,
  )

pub counted-once : EachRowIsCountedOnce
counted-once n xs set = omega (arith, all-counted xs, none-counted is_unset xs set)

some-or : (b : Bool) (rest : ℕ) → (b || nat_lt 0 rest) ≡ nat_lt 0 (cond b 1 0 + rest)
some-or true rest = sym (lt-ltb 0 (1 + rest) (omega arith))
some-or false rest = ap (λ m. nat_lt 0 m) (sym (zero-add rest))

pub short-counted : ShortRowsAreCounted
short-counted n [] = refl
short-counted n (x ∷ xs) =
    ap (λ b. is_short x || b) (short-counted n xs)
    ∙ some-or (is_short x) (rows_short (counts_of xs))
    ∙ ap (λ m. nat_lt 0 (m + rows_short (counts_of xs))) (sym (short-once x))
    ∙ ap (λ m. nat_lt 0 m) (sym (short-cons x xs))
