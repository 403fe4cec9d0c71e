-- Sums over the lines of an array, line by line, and how they change with one line.
use Rattle.std.proofs.Common.{◌≡◌, ◌≢◌, ℕ, zero, suc, ◌+◌, ◌*◌, ◌^◌, ◌<◌, ◌≤◌, inl, inr, max, refl, sym, ap, ◌∙◌, add-one, arith}
use Rattle.std.proofs.lemmas.Bool.{cases_eq}
use Rattle.cell_rows.{specs.Device.ArrayState, specs.Rows.cell, specs.Told.most, proofs.Most.{most-more, most-same}}
use Rattle.ecp_line.specs.Layout.{active}
use Rattle.run_text.specs.Pulses.{pulses_of_first}
use Rattle.wear_totals.specs.Wear.{pointers_of_first}

-- the most of one line more
pub most-on : (number : ℕ → ℕ) (lines was own now : ℕ) → was ≡ most number lines → own ≡ number lines → now ≡ max was own → now ≡ most number (lines + 1)
most-on number lines was own now had is greater = greater ∙ rw (had, is) (sym (most-more number lines))

-- a count of pointers is a byte
pub byte-small : (own : ℕ) → own < 2 ^ 8 → own ≤ 255
byte-small own low = omega (arith, low)

module _ {n m : ℕ} (e : ℕ) (array : ArrayState n m) where
  pub pointers-none : pointers_of_first e array 0 ≡ 0
  unfolding pointers_of_first
  pointers-none = refl

  pub pointers-more : (lines : ℕ) → pointers_of_first e array (lines + 1) ≡ pointers_of_first e array lines + active n e (cell (array.line lines).held)
  unfolding pointers_of_first
  pointers-more lines = rw (add-one lines) refl

  -- a sum stays small, and goes on
  pub pointers-on : (lines sum own : ℕ) → (sum ≡ pointers_of_first e array lines) × (sum ≤ 255 * lines) → own ≡ active n e (cell (array.line lines).held) → own ≤ 255
      → (sum + own ≡ pointers_of_first e array (lines + 1)) × (sum + own ≤ 255 * (lines + 1))
  pointers-on lines sum own had is low =
      let total : pointers_of_first e array (lines + 1) ≡ pointers_of_first e array lines + active n e (cell (array.line lines).held) = pointers-more lines in
      (omega (arith, total, had.0, is), omega (arith, had.1, low))

-- the sum of the first so many of some numbers
unfoldable pub sum_of : (ℕ → ℕ) → ℕ → ℕ
sum_of number zero = 0
sum_of number (suc k) = sum_of number k + number k

module _ {n m : ℕ} (array : ArrayState n m) where
  pub pulses-sum : (lines : ℕ) → pulses_of_first array lines ≡ sum_of (λ line. (array.line line).pulses) lines
  unfolding sum_of pulses_of_first
  pulses-sum zero = refl
  pulses-sum (suc k) = rw (pulses-sum k) refl

  pub pointers-sum : (e lines : ℕ) → pointers_of_first e array lines ≡ sum_of (λ line. active n e (cell (array.line line).held)) lines
  unfolding sum_of pointers_of_first
  pointers-sum e zero = refl
  pointers-sum e (suc k) = rw (pointers-sum e k) refl

-- numbers that are small have a small sum
pub sum-small : (number : ℕ → ℕ) (each lines : ℕ) → ((line : ℕ) → number line ≤ each) → sum_of number lines ≤ each * lines
unfolding sum_of
sum-small number each zero small = omega arith
sum-small number each (suc k) small =
    let before = sum-small number each k small in
    let own = small k in
    let product : each * suc k ≡ each * k + each = omega arith in
    omega (arith, before, own, product)

-- numbers that are 0 have the sum 0
pub sum-none : (number : ℕ → ℕ) (lines : ℕ) → ((line : ℕ) → line < lines → number line ≡ 0) → sum_of number lines ≡ 0
unfolding sum_of
sum-none number zero none = refl
sum-none number (suc k) none =
    let before = sum-none number k (λ line low. none line (omega (arith, low))) in
    let own = none k (omega arith) in
    omega (arith, before, own)

-- the same numbers have the same sum
pub sum-same : (a b : ℕ → ℕ) (lines : ℕ) → ((line : ℕ) → line < lines → a line ≡ b line) → sum_of a lines ≡ sum_of b lines
unfolding sum_of
sum-same a b zero same = refl
sum-same a b (suc k) same =
    let before = sum-same a b k (λ line low. same line (omega (arith, low))) in
    let own = same k (omega arith) in
    omega (arith, before, own)

-- one of them is no greater
pub sum-has : (number : ℕ → ℕ) (line lines : ℕ) → line < lines → number line ≤ sum_of number lines
unfolding sum_of
sum-has number line zero low = absurd (omega (arith, low))
sum-has number line (suc k) low =
    elim (cases_eq line k) as (λ _. number line ≤ sum_of number k + number k) [
      | inl same ↦ let own = ap number same in omega (arith, own)
      | inr apart ↦ let before = sum-has number line k (omega (arith, low, apart)) in omega (arith, before)
    ]

-- the others are as they were
abbrev pub Others : ℕ → (ℕ → ℕ) → (ℕ → ℕ) → Type 0
Others line old new = (other : ℕ) → other ≢ line → new other ≡ old other

less-apart : (k line : ℕ) → k < line → k ≢ line
less-apart k line low same = absurd (omega (arith, low, same))

-- a sum of numbers before that one
sum-below : (old new : ℕ → ℕ) (line lines : ℕ) → Others line old new → lines ≤ line → sum_of new lines ≡ sum_of old lines
unfolding sum_of
sum-below old new line zero others low = refl
sum-below old new line (suc k) others low =
    let before = sum-below old new line k others (omega (arith, low)) in
    let own = others k (less-apart k line (omega (arith, low))) in
    omega (arith, before, own)

-- and one with it
pub sum-with : (old new : ℕ → ℕ) (line lines : ℕ) → Others line old new → line < lines → sum_of new lines + old line ≡ sum_of old lines + new line
unfolding sum_of
sum-with old new line zero others low = absurd (omega (arith, low))
sum-with old new line (suc k) others low =
    elim (cases_eq line k) as (λ _. sum_of new k + new k + old line ≡ sum_of old k + old k + new line) [
      | inl same ↦
          let before = sum-below old new line k others (omega (arith, same)) in
          let was = ap old same in
          let is = ap new same in
          omega (arith, before, was, is)
      | inr apart ↦
          let before = sum-with old new line k others (omega (arith, low, apart)) in
          let own = others k (λ same. apart (sym same)) in
          omega (arith, before, own)
    ]

-- the greatest of numbers with it, where it has grown
pub most-with : (old new : ℕ → ℕ) (line lines : ℕ) → Others line old new → old line ≤ new line → line < lines → most new lines ≡ max (most old lines) (new line)
unfolding most
most-with old new line zero others more low = absurd (omega (arith, low))
most-with old new line (suc k) others more low =
    elim (cases_eq line k) as (λ _. max (most new k) (new k) ≡ max (max (most old k) (old k)) (new line)) [
      | inl same ↦
          let before = most-same new old k (λ other less. others other (less-apart other line (omega (arith, less, same)))) in
          let was = ap old same in
          let is = ap new same in
          omega (arith, before, was, is, more)
      | inr apart ↦
          let before = most-with old new line k others more (omega (arith, low, apart)) in
          let own = others k (λ same. apart (sym same)) in
          omega (arith, before, own)
    ]
