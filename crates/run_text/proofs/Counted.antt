-- What one more row does to the counts of a table, and to whether some row falls short.
use Rattle.std.proofs.Common.{ℕ, get_or, ◌+◌, ◌-◌, ◌<◌, ◌≤◌, ◌≡◌, Bool, true, false, ◌||◌, cond, List, length, take, Some, ap, sym, ◌∙◌, refl, arith}
use Rattle.std.{specs.List.{count_by, list_any}, proofs.lemmas.List.length-take, proofs.lemmas.List.Folds.{list_any_more, list_any_at}}
use Rattle.std.proofs.{lemmas.List.Sums.{count_by_more_yes, count_by_more_no}, lemmas.Option.get_or_from_slice_get}
use Rattle.result_rows.specs.{Table.outcome_at, declared.Outcome.Outcome}
use Rattle.row_rules.specs.Answers.{is_stored, is_merged, is_queued, is_full, is_worn, is_answered, is_forwarded, is_busy, is_lost}
use Rattle.run_text.{specs.Counting.{is_cut, counts_of, with_one}, specs.Laws.rows_counted, specs.declared.counts.OutcomeCounts.OutcomeCounts, proofs.Adding.all-counted}

-- the outcome behind so many rows
outcome-behind : {X : Type 0} (xs : List X) (before : ℕ) (x : X) → outcome_at xs (before + 1) ≡ Some x → get_or xs before x ≡ x
outcome-behind xs before x at =
    let number : (before + 1) - 1 ≡ before = omega arith in
    get_or_from_slice_get xs before x x (rw number at at)

-- a count of the rows with one more, by that of the rows before it
count-more : {X : Type 0} (p : X → Bool) (xs : List X) (before : ℕ) (x : X) → before < length xs → outcome_at xs (before + 1) ≡ Some x
    → count_by p (take (before + 1) xs) ≡ cond (p x) (count_by p (take before xs) + 1) (count_by p (take before xs))
count-more p xs before x within at = by (p x) (ap p (sym (outcome-behind xs before x at)))
  where
    by : (b : Bool) → b ≡ p (get_or xs before x) → count_by p (take (before + 1) xs) ≡ cond b (count_by p (take before xs) + 1) (count_by p (take before xs))
    by true is = count_by_more_yes p xs before x within (sym is)
    by false is = count_by_more_no p xs before x within (sym is)

-- the counts with one more row
pub counts-more : {n : ℕ} (old : OutcomeCounts) (xs : List (Outcome n)) (before : ℕ) (x : Outcome n) → before < length xs → outcome_at xs (before + 1) ≡ Some x
    → old ≡ counts_of (take before xs) → with_one old x ≡ counts_of (take (before + 1) xs)
counts-more old xs before x within at is =
    ap (λ counts. with_one counts x) is
    ∙ rw (
      ← count-more is_stored xs before x within at,
      ← count-more is_merged xs before x within at,
      ← count-more is_queued xs before x within at,
      ← count-more is_full xs before x within at,
      ← count-more is_worn xs before x within at,
      ← count-more is_answered xs before x within at,
      ← count-more is_forwarded xs before x within at,
      ← count-more is_busy xs before x within at,
      ← count-more is_lost xs before x within at,
      ← count-more is_cut xs before x within at,
    ) refl

-- no more rows are counted than there are before a row
pub counted-before : {n : ℕ} (counts : OutcomeCounts) (xs : List (Outcome n)) (before : ℕ) → counts ≡ counts_of (take before xs) → rows_counted counts ≤ before
counted-before counts xs before is =
    let same : rows_counted counts ≡ rows_counted (counts_of (take before xs)) = ap rows_counted is in
    omega (arith, same, all-counted (take before xs), length-take before xs)

-- whether some of the rows passes a test, with one more row
pub any-more : {X : Type 0} (p : X → Bool) (xs : List X) (before : ℕ) (x : X) → before < length xs → outcome_at xs (before + 1) ≡ Some x
    → list_any p (take (before + 1) xs) ≡ (list_any p (take before xs) || p x)
any-more p xs before x within at =
    list_any_more p xs before x within ∙ ap (λ y. list_any p (take before xs) || p y) (outcome-behind xs before x at)

-- a row that passes a test is one of all
pub any-here : {X : Type 0} (p : X → Bool) (xs : List X) (before : ℕ) (x : X) → before < length xs → outcome_at xs (before + 1) ≡ Some x
    → p x ≡ true → list_any p xs ≡ true
any-here p xs before x within at passes = list_any_at p xs before x within (ap p (outcome-behind xs before x at) ∙ passes)
