-- How many entries are active.
use Rattle.std.proofs.Common.{◌≡◌, ℕ, zero, suc, ◌+◌, ◌-◌, ◌<◌, ◌≤◌, Bool, true, false, cond, refl, sym, ap, ◌∙◌, inl, inr, arith}
use Rattle.std.proofs.lemmas.Bool.{cases_order, cases_Bool, cond-true, cond-false, both_ways}
use Rattle.ecp_line.specs.Layout.{leading, active, activity_cell, full_cell}

within-step : (b : Bool) (n m : ℕ) → m ≤ n → cond b (1 + m) 0 ≤ suc n
within-step b n m h = grind arith

pub leading-within : (f : ℕ → Bool) (from n : ℕ) → leading f from n ≤ n
unfolding leading
leading-within f from zero = omega arith
leading-within f from (suc n) = within-step (f from) n (leading f (from + 1) n) (leading-within f (from + 1) n)

ones-step : (f : ℕ → Bool) (from m : ℕ) → ((j : ℕ) → j < m → f (from + 1 + j) ≡ true) → (b : Bool) → f from ≡ b → (i : ℕ) → i < cond b (1 + m) 0 → f (from + i) ≡ true
ones-step f from m rest true e zero l = let p : from + zero ≡ from = omega arith in ap f p ∙ e
ones-step f from m rest true e (suc j) l = let p : from + suc j ≡ from + 1 + j = omega arith in ap f p ∙ rest j (omega arith)
ones-step f from m rest false e i l = absurd (omega arith)

-- the cells before the first 0 are 1
pub leading-ones : (f : ℕ → Bool) (from n i : ℕ) → i < leading f from n → f (from + i) ≡ true
unfolding leading
leading-ones f from zero i h = absurd (omega arith)
leading-ones f from (suc n) i h = ones-step f from (leading f (from + 1) n) (leading-ones f (from + 1) n) (f from) refl i h

zero-step : (f : ℕ → Bool) (from m n : ℕ) → (m < n → f (from + 1 + m) ≡ false) → (b : Bool) → f from ≡ b → cond b (1 + m) 0 < suc n → f (from + cond b (1 + m) 0) ≡ false
zero-step f from m n rest true e l = let p : from + (1 + m) ≡ from + 1 + m = omega arith in ap f p ∙ rest (omega arith)
zero-step f from m n rest false e l = let p : from + 0 ≡ from = omega arith in ap f p ∙ e

-- the next cell is 0
pub leading-zero : (f : ℕ → Bool) (from n : ℕ) → leading f from n < n → f (from + leading f from n) ≡ false
unfolding leading
leading-zero f from zero h = absurd (omega arith)
leading-zero f from (suc n) h = zero-step f from (leading f (from + 1) n) n (leading-zero f (from + 1) n) (f from) refl h

-- and that is the only such number
pub leading-is : (f : ℕ → Bool) (from n k : ℕ) → k ≤ n → ((i : ℕ) → i < k → f (from + i) ≡ true) → (k < n → f (from + k) ≡ false) → leading f from n ≡ k
leading-is f from n k within ones gap =
    let top = leading-within f from n in
    elim (cases_order (leading f from n) k) as (λ _. leading f from n ≡ k) [
      | inl e ↦ e
      | inr (inl low) ↦ absurd (both_ways _ (leading-zero f from n (omega arith)) (ones (leading f from n) low))
      | inr (inr high) ↦ absurd (both_ways _ (gap (omega arith)) (leading-ones f from n k high))
    ]

pub active-full : (B E : ℕ) (f : ℕ → Bool) → f (full_cell B E) ≡ true → active B E f ≡ E
unfolding active
active-full B E f h = cond-true (f (full_cell B E)) E (leading f (activity_cell B E) (E - 1)) h

pub active-open : (B E : ℕ) (f : ℕ → Bool) → f (full_cell B E) ≡ false → active B E f ≡ leading f (activity_cell B E) (E - 1)
unfolding active
active-open B E f h = cond-false (f (full_cell B E)) E (leading f (activity_cell B E) (E - 1)) h

-- while `full` is 0, at least one entry isn't active
pub open-within : (B E : ℕ) (f : ℕ → Bool) → f (full_cell B E) ≡ false → active B E f ≤ E - 1
open-within B E f h = let e = active-open B E f h in let t = leading-within f (activity_cell B E) (E - 1) in omega arith

pub active-within : (B E : ℕ) (f : ℕ → Bool) → active B E f ≤ E
active-within B E f =
    elim (cases_Bool (f (full_cell B E))) as (λ _. active B E f ≤ E) [
      | inl h ↦ let e = active-full B E f h in omega arith
      | inr h ↦ let e = open-within B E f h in omega arith
    ]

-- the activity cells of active entries are 1, and the next one is 0
pub activity-ones : (B E : ℕ) (f : ℕ → Bool) → f (full_cell B E) ≡ false → (i : ℕ) → i < active B E f → f (activity_cell B E + i) ≡ true
activity-ones B E f h i l = let e = active-open B E f h in leading-ones f (activity_cell B E) (E - 1) i (omega arith)

pub activity-zero : (B E : ℕ) (f : ℕ → Bool) → f (full_cell B E) ≡ false → (k : ℕ) → k ≡ active B E f → k < E - 1 → f (activity_cell B E + k) ≡ false
activity-zero B E f h k at l =
    let e = active-open B E f h in
    let p : activity_cell B E + k ≡ activity_cell B E + leading f (activity_cell B E) (E - 1) = omega arith in
    ap f p ∙ leading-zero f (activity_cell B E) (E - 1) (omega arith)

pub active-is : (B E : ℕ) (f : ℕ → Bool) (k : ℕ) → f (full_cell B E) ≡ false → k ≤ E - 1 → ((i : ℕ) → i < k → f (activity_cell B E + i) ≡ true) → (k < E - 1 → f (activity_cell B E + k) ≡ false) → active B E f ≡ k
active-is B E f k h within ones gap = active-open B E f h ∙ leading-is f (activity_cell B E) (E - 1) k within ones gap

-- a change behind the first activity cell that is 0 leaves the active entries
pub active-kept : (B E : ℕ) (f g : ℕ → Bool) → g (full_cell B E) ≡ f (full_cell B E)
    → ((i : ℕ) → i < E - 1 → i ≤ active B E f → g (activity_cell B E + i) ≡ f (activity_cell B E + i)) → active B E g ≡ active B E f
active-kept B E f g at same =
    elim (cases_Bool (f (full_cell B E))) as (λ _. active B E g ≡ active B E f) [
      | inl h ↦ active-full B E g (at ∙ h) ∙ sym (active-full B E f h)
      | inr h ↦
          let top = open-within B E f h in
          active-is B E g (active B E f) (at ∙ h) top
          (λ i l. same i (omega arith) (omega arith) ∙ activity-ones B E f h i l)
          (λ l. same (active B E f) l (omega arith) ∙ activity-zero B E f h (active B E f) refl l)
    ]

-- as the code finds it, which knows the cells by their numbers
pub active-found : (B E : ℕ) (f : ℕ → Bool) (full first k : ℕ) → full ≡ full_cell B E → f full ≡ false → first ≡ activity_cell B E → k ≤ E - 1
    → ((i : ℕ) → i < k → f (first + i) ≡ true) → (k < E - 1 → f (first + k) ≡ false) → k ≡ active B E f
active-found B E f full first k at off from within ones gap =
    sym (active-is B E f k (ap f (sym at) ∙ off) within
    (λ i l. ap (λ (a : ℕ). f (a + i)) (sym from) ∙ ones i l)
    (λ l. ap (λ (a : ℕ). f (a + k)) (sym from) ∙ gap l))

pub active-all : (B E : ℕ) (f : ℕ → Bool) (full : ℕ) → full ≡ full_cell B E → f full ≡ true → E ≡ active B E f
active-all B E f full at on = sym (active-full B E f (ap f (sym at) ∙ on))
