-- At most one element of a kind, told by their number and by a test of each.
use Rattle.std.proofs.Common.{◌≡◌, ℕ, ◌+◌, ◌&&◌, ◌||◌, Bool, true, false, List, [], ◌∷◌, length, refl, sym, ap, ◌∙◌, cond, arith}
use Rattle.std.{specs.List.list_all, specs.Prelude.{nat_le, nat_lt, not, filter, count_by}, proofs.lemmas.Bool.{le-leb, lt-leb}, proofs.lemmas.List.Sums.length-filter}
use Rattle.row_rules.specs.{Queueing.{none_before, is_older, has_few, is_refused}, declared.Row.Row}
use Rattle.masked_bytes.proofs.{Counting.count-cons, Truth.and_true}
use Rattle.check_judging.specs.Few.{few_by}

-- where no element is an own one, each of its own passes
none_own : {A : Type 0} (own one : A → Bool) (xs : List A) → filter own xs ≡ [] → list_all (λ x. not (own x) || one x) xs ≡ true
none_own own one [] h = refl
none_own {A} own one (x ∷ xs) h = by (own x) h (none_own own one xs)
  where
    by : (b : Bool) → cond b (x ∷ filter own xs) (filter own xs) ≡ [] → (filter own xs ≡ [] → list_all (λ x. not (own x) || one x) xs ≡ true)
        → ((not b || one x) && list_all (λ x. not (own x) || one x) xs) ≡ true
    by true h ih = absurd (cc)
    by false h ih = ih h

-- a function of the own ones that is true of none, a test of one and false of more
pub few_filter : {A : Type 0} (own one : A → Bool) (few : List A → Bool) → few [] ≡ true → ((x : A) → few (x ∷ []) ≡ one x)
    → ((x y : A) (zs : List A) → few (x ∷ y ∷ zs) ≡ false) → (xs : List A) → few (filter own xs) ≡ few_by own one xs
few_filter own one few e0 e1 e2 [] = e0
few_filter {A} own one few e0 e1 e2 (x ∷ xs) =
    by (own x) (count_by own (x ∷ xs)) (count-cons own x xs) (few_filter own one few e0 e1 e2 xs)
  where
    rest : (ys : List A) (k : ℕ) → filter own xs ≡ ys → k ≡ 1 + count_by own xs
        → few (x ∷ ys) ≡ (nat_le k 1 && (one x && list_all (λ x. not (own x) || one x) xs))
    rest [] k is number =
        let c : length (filter own xs) ≡ count_by own xs = length-filter own xs in
        let z : length (filter own xs) ≡ 0 = ap length is in
        e1 x
        ∙ sym (and_true (one x))
        ∙ ap (λ b. one x && b) (sym (none_own own one xs is))
        ∙ ap (λ b. b && (one x && list_all (λ x. not (own x) || one x) xs)) (sym (le-leb k 1 (omega (arith, c, z, number))))
    rest (y ∷ ys) k is number =
        let c : length (filter own xs) ≡ count_by own xs = length-filter own xs in
        let z : length (filter own xs) ≡ length (y ∷ ys) = ap length is in
        e2 x y ys ∙ ap (λ b. b && (one x && list_all (λ x. not (own x) || one x) xs)) (sym (lt-leb k 1 (omega (arith, c, z, number))))

    by : (b : Bool) (k : ℕ) → k ≡ cond b 1 0 + count_by own xs → few (filter own xs) ≡ few_by own one xs
        → few (cond b (x ∷ filter own xs) (filter own xs)) ≡ (nat_le k 1 && ((not b || one x) && list_all (λ x. not (own x) || one x) xs))
    by true k number ih = rest (filter own xs) k refl number
    by false k number ih =
        let same : count_by own xs ≡ k = omega (arith, number) in
        ih ∙ ap (λ c. nat_le c 1 && list_all (λ x. not (own x) || one x) xs) same

pub few_is : {n : ℕ} (all : List (Row n)) (newer : Row n) (own : Row n → Bool) (rows : List (Row n))
    → has_few all newer (filter own rows) ≡ few_by own (λ o. is_older all newer o) rows
few_is all newer own rows = few_filter own (λ o. is_older all newer o) (has_few all newer) refl (λ x. refl) (λ x y zs. refl) rows

pub refused_is : {n : ℕ} (tick : ℕ) (all : List (Row n)) (own : Row n → Bool) (rows : List (Row n))
    → is_refused tick all (filter own rows) ≡ few_by own (λ q. nat_lt q.tick tick && none_before q.outcome all) rows
refused_is tick all own rows = few_filter own (λ q. nat_lt q.tick tick && none_before q.outcome all) (is_refused tick all) refl (λ x. refl) (λ x y zs. refl) rows
