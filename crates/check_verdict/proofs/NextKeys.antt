-- The next of some sorted keys.
use Rattle.std.proofs.Common.{◌≡◌, ℕ, zero, suc, ◌+◌, ◌<◌, ◌≤◌, ◌⊎◌, inl, inr, List, [], ◌∷◌, length, refl, sym, ap, ◌∙◌, arith}
use Rattle.std.{specs.List.Sorted.IsNonDecreasing, specs.Prelude.{nat_le, nat_lt, slice_get, slice_index_or}, proofs.lemmas.Bool.{le-leb, lt-leb, lt-ltb, le-ltb, cases_lt}}
use Rattle.check_judging.specs.Keys.{up_to}
use Rattle.masked_bytes.proofs.Counting.{count-cons, one_if}
use Rattle.check_verdict.specs.Covering.{comes_by}

-- none of these is at most e
none_up_to : (e : ℕ) (keys : List ℕ) → ((k d : ℕ) → k < length keys → e < slice_index_or keys k d) → up_to e keys ≡ 0
none_up_to e [] above = refl
none_up_to e (x ∷ keys) above =
    let i = count-cons (λ x. nat_le x e) x keys in
    let j : one_if (nat_le x e) ≡ 0 = ap one_if (lt-leb x e (above 0 0 (omega arith))) in
    let r = none_up_to e keys (λ k d lt. above (suc k) d (omega (arith, lt))) in
    omega (arith, i, j, r)

lt-suc : (k n : ℕ) → nat_lt (suc k) (suc n) ≡ nat_lt k n
lt-suc k n = by (cases_lt k n)
  where
    by : (k < n) ⊎ (n ≤ k) → nat_lt (suc k) (suc n) ≡ nat_lt k n
    by (inl l) = lt-ltb (suc k) (suc n) (omega (arith, l)) ∙ sym (lt-ltb k n l)
    by (inr g) = le-ltb (suc k) (suc n) (omega (arith, g)) ∙ sym (le-ltb k n g)

-- more of some sorted keys than these are at most e exactly where the next one is
pub next_comes : (e k : ℕ) (keys : List ℕ) → IsNonDecreasing keys → nat_lt k (up_to e keys) ≡ comes_by e (slice_get keys k)
next_comes e k [] sorted = le-ltb k 0 (omega arith)
next_comes e k (x ∷ keys) sorted = by k (cases_lt e x) (λ j. next_comes e j keys rest)
  where
    rest : IsNonDecreasing keys
    rest = λ i j d le lt. sorted (suc i) (suc j) d (omega (arith, le)) (omega (arith, lt))

    counted : up_to e (x ∷ keys) ≡ one_if (nat_le x e) + up_to e keys
    counted = count-cons (λ x. nat_le x e) x keys

    by : (k : ℕ) → (e < x) ⊎ (x ≤ e) → ((j : ℕ) → nat_lt j (up_to e keys) ≡ comes_by e (slice_get keys j)) → nat_lt k (up_to e (x ∷ keys)) ≡ comes_by e (slice_get (x ∷ keys) k)
    by zero (inl lt) ih =
        let none = none_up_to e (x ∷ keys) (λ i d l. let s = sorted 0 i d (omega arith) l in omega (arith, s, lt)) in
        ap (nat_lt 0) none ∙ sym (lt-leb x e lt)
    by zero (inr le) ih =
        let one : one_if (nat_le x e) ≡ 1 = ap one_if (le-leb x e le) in
        lt-ltb 0 (up_to e (x ∷ keys)) (omega (arith, counted, one)) ∙ sym (le-leb x e le)
    by (suc k) (inl lt) ih =
        let none = none_up_to e (x ∷ keys) (λ i d l. let s = sorted 0 i d (omega arith) l in omega (arith, s, lt)) in
        let fewer : up_to e keys ≡ 0 = omega (arith, counted, none) in
        ap (nat_lt (suc k)) none
        ∙ le-ltb (suc k) 0 (omega arith)
        ∙ sym (le-ltb k 0 (omega arith))
        ∙ ap (nat_lt k) (sym fewer)
        ∙ ih k
    by (suc k) (inr le) ih =
        let one : one_if (nat_le x e) ≡ 1 = ap one_if (le-leb x e le) in
        let more : up_to e (x ∷ keys) ≡ suc (up_to e keys) = omega (arith, counted, one) in
        ap (nat_lt (suc k)) more ∙ lt-suc k (up_to e keys) ∙ ih k
