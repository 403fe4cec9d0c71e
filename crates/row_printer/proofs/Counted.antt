-- What one outcome more makes of the counts of a table in which its row was open.
use Rattle.std.proofs.Common.{◌≡◌, ℕ, zero, suc, ◌+◌, ◌-◌, ◌<◌, ◌≤◌, Bool, false, cond, List, [], ◌∷◌, ◌++◌, length, set, slice_get, Some, refl, sym, ap, ◌∙◌, arith}
use Rattle.std.specs.List.{count_by}
use Rattle.masked_bytes.proofs.Counting.{count-cons, count-append, one_if}
use Rattle.result_rows.specs.{Table.{outcome_at, with_outcome}, declared.Outcome.Outcome}
use Rattle.result_rows.specs.declared.Outcome.TheVariants as out
use Rattle.row_rules.specs.Answers.{is_stored, is_merged, is_queued, is_full, is_worn, is_answered, is_forwarded, is_busy, is_lost}
use Rattle.run_text.{specs.Counting.{is_cut, counts_of, with_one}, specs.Laws.{is_unset, rows_counted}, proofs.Adding.all-counted}

-- a count, where one that failed a test becomes another
one-more : (b : Bool) (count : ℕ) → cond b 1 0 + count ≡ cond b (count + 1) count
one-more b count = grind arith

step-over : (b c : Bool) (count : ℕ) → cond c 1 0 + cond b (count + 1) count ≡ cond b ((cond c 1 0 + count) + 1) (cond c 1 0 + count)
step-over b c count = grind arith

count-set : {X : Type 0} (p : X → Bool) (xs : List X) (i : ℕ) (was now : X) → slice_get xs i ≡ Some was → p was ≡ false
    → count_by p (set xs i now) ≡ cond (p now) (count_by p xs + 1) (count_by p xs)
count-set p [] i was now at off = cc at
count-set p (x ∷ xs) zero was now at off =
    let same : x ≡ was = cc in
    let none : one_if (p x) ≡ 0 = ap (λ y. one_if (p y)) same ∙ ap one_if off in
    let all : count_by p (x ∷ xs) ≡ count_by p xs = omega (arith, count-cons p x xs, none) in
    count-cons p now xs ∙ one-more (p now) (count_by p xs) ∙ ap (λ k. cond (p now) (k + 1) k) (sym all)
count-set p (x ∷ xs) (suc i) was now at off =
    count-cons p x (set xs i now)
    ∙ ap (λ k. cond (p x) 1 0 + k) (count-set p xs i was now at off)
    ∙ step-over (p now) (p x) (count_by p xs)
    ∙ ap (λ k. cond (p now) (k + 1) k) (sym (count-cons p x xs))

pub counts-more : {n : ℕ} (table : List (Outcome n)) (row : ℕ) (outcome : Outcome n) → outcome_at table row ≡ Some out.Unset
    → counts_of (with_outcome table row outcome) ≡ with_one (counts_of table) outcome
counts-more table row outcome at = rw (
  count-set is_stored table (row - 1) out.Unset outcome at refl,
  count-set is_merged table (row - 1) out.Unset outcome at refl,
  count-set is_queued table (row - 1) out.Unset outcome at refl,
  count-set is_full table (row - 1) out.Unset outcome at refl,
  count-set is_worn table (row - 1) out.Unset outcome at refl,
  count-set is_answered table (row - 1) out.Unset outcome at refl,
  count-set is_forwarded table (row - 1) out.Unset outcome at refl,
  count-set is_busy table (row - 1) out.Unset outcome at refl,
  count-set is_lost table (row - 1) out.Unset outcome at refl,
  count-set is_cut table (row - 1) out.Unset outcome at refl,
) refl

-- a row more that is open isn't counted
open-counted : {n : ℕ} (p : Outcome n → Bool) → p out.Unset ≡ false → (xs : List (Outcome n)) → count_by p (xs ++ out.Unset ∷ []) ≡ count_by p xs
open-counted {n = n} p off xs =
    let none : List (Outcome n) = [] in
    let first : one_if (p out.Unset) ≡ 0 = ap one_if off in
    let nothing : count_by p none ≡ 0 = refl in
    omega (arith, count-append p xs (out.Unset ∷ []), count-cons p out.Unset none, first, nothing)

pub counts-open : {n : ℕ} (xs : List (Outcome n)) → counts_of (xs ++ out.Unset ∷ []) ≡ counts_of xs
counts-open xs = rw (
  open-counted is_stored refl xs,
  open-counted is_merged refl xs,
  open-counted is_queued refl xs,
  open-counted is_full refl xs,
  open-counted is_worn refl xs,
  open-counted is_answered refl xs,
  open-counted is_forwarded refl xs,
  open-counted is_busy refl xs,
  open-counted is_lost refl xs,
  open-counted is_cut refl xs,
) refl

module _ {n : ℕ} where
  unset-one : (x : Outcome n) → x ≡ out.Unset → one_if (is_unset x) ≡ 1
  unset-one x same = ap (λ y. one_if (is_unset y)) same

  some-open : (xs : List (Outcome n)) (i : ℕ) → slice_get xs i ≡ Some out.Unset → 1 ≤ count_by is_unset xs
  some-open [] i at = cc at
  some-open (x ∷ xs) zero at =
      let same : x ≡ out.Unset = cc in
      omega (arith, count-cons is_unset x xs, unset-one x same)
  some-open (x ∷ xs) (suc i) at = omega (arith, count-cons is_unset x xs, some-open xs i at)

  -- so where a row is open, fewer are counted than there are rows
  pub counted-below : (table : List (Outcome n)) (row most : ℕ) → outcome_at table row ≡ Some out.Unset → length table ≤ most → rows_counted (counts_of table) < most
  counted-below table row most at within =
      let all = all-counted table in
      let one = some-open table (row - 1) at in
      omega (arith, all, one, within)
