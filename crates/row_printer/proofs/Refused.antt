-- Some row was refused where a count says so.
use Rattle.std.proofs.Common.{ℕ, ◌+◌, ◌<◌, ◌≤◌, ◌≡◌, Bool, true, false, ◌||◌, cond, nat_lt, List, [], ◌∷◌, count_by, zero-add, ap, sym, ◌∙◌, refl, arith}
use Rattle.std.proofs.lemmas.Bool.{lt-ltb}
use Rattle.masked_bytes.proofs.Counting.{count-cons}
use Rattle.result_rows.specs.declared.Outcome.{Outcome}
use Rattle.row_rules.specs.Answers.{is_full, is_worn}
use Rattle.run_text.specs.{Counting.counts_of, declared.counts.OutcomeCounts.OutcomeCounts}
use Rattle.row_printer.specs.Refusing.{any_refused}

some-or : (b : Bool) (rest : ℕ) → (b || nat_lt 0 rest) ≡ nat_lt 0 (cond b 1 0 + rest)
some-or true rest = sym (lt-ltb 0 (1 + rest) (omega arith))
some-or false rest = ap (λ m. nat_lt 0 m) (sym (zero-add rest))

regrouped : (a b c d : Bool) → ((a || b) || (c || d)) ≡ ((a || c) || (b || d))
regrouped a b c d = grind arith

one-refused : {n : ℕ} (x : Outcome n) (xs : List (Outcome n)) (p : Outcome n → Bool) → (p x || nat_lt 0 (count_by p xs)) ≡ nat_lt 0 (count_by p (x ∷ xs))
one-refused x xs p = some-or (p x) (count_by p xs) ∙ ap (λ m. nat_lt 0 m) (sym (count-cons p x xs))

pub refused-counted : {n : ℕ} (xs : List (Outcome n)) → any_refused xs ≡ (nat_lt 0 (count_by is_full xs) || nat_lt 0 (count_by is_worn xs))
refused-counted [] = refl
refused-counted (x ∷ xs) =
    ap (λ b. (is_full x || is_worn x) || b) (refused-counted xs)
    ∙ regrouped (is_full x) (is_worn x) (nat_lt 0 (count_by is_full xs)) (nat_lt 0 (count_by is_worn xs))
    ∙ ap (λ b. b || (is_worn x || nat_lt 0 (count_by is_worn xs))) (one-refused x xs is_full)
    ∙ ap (λ b. nat_lt 0 (count_by is_full (x ∷ xs)) || b) (one-refused x xs is_worn)

pub by-full : {n : ℕ} (xs : List (Outcome n)) (counts : OutcomeCounts) → counts ≡ counts_of xs → 0 < counts.full → nat_lt 0 counts.full ≡ any_refused xs
by-full xs counts are some =
    let yes : nat_lt 0 counts.full ≡ true = lt-ltb 0 counts.full some in
    let full : count_by is_full xs ≡ counts.full = ap (λ (c : OutcomeCounts). c.full) (sym are) in
    yes ∙ sym (refused-counted xs ∙ ap (λ b. b || nat_lt 0 (count_by is_worn xs)) (ap (λ (k : ℕ). nat_lt 0 k) full ∙ yes))

pub by-worn : {n : ℕ} (xs : List (Outcome n)) (counts : OutcomeCounts) → counts ≡ counts_of xs → counts.full ≤ 0 → nat_lt 0 counts.worn ≡ any_refused xs
by-worn xs counts are none =
    let full : count_by is_full xs ≡ 0 = ap (λ (c : OutcomeCounts). c.full) (sym are) ∙ omega (arith, none) in
    ap (λ (c : OutcomeCounts). nat_lt 0 c.worn) are ∙ sym (refused-counted xs ∙ ap (λ (k : ℕ). nat_lt 0 k || nat_lt 0 (count_by is_worn xs)) full)
