-- Of more lines than slots, many have no slot: lines that are worn, counted.
use Rattle.std.proofs.Common.{◌≡◌, ℕ, zero, suc, ◌+◌, ◌<◌, ◌≤◌, ◌==◌, inl, inr, Bool, refl, sym, ap, ◌∙◌, arith}
use Rattle.std.proofs.lemmas.Bool.{eq-eqb, ne_eqb, cases_eq}
use Rattle.right_runs.specs.WornLines.{worn_among}
use Rattle.masked_bytes.proofs.Counting.{one_if}

-- how many of the first k slots have a line
abbrev pub owners : (ℕ → ℕ) → ℕ → ℕ → ℕ
owners f line zero = 0
owners f line (suc k) = one_if (f k == line) + owners f line k

-- the same for n lines from one on
abbrev owners_among : (ℕ → ℕ) → ℕ → ℕ → ℕ → ℕ
owners_among f k from zero = 0
owners_among f k from (suc n) = owners f from k + owners_among f k (from + 1) n

-- whether a line is one of n from one on
abbrev pub once : ℕ → ℕ → ℕ → ℕ
once line from zero = 0
once line from (suc n) = one_if (line == from) + once line (from + 1) n

once-below : (line from n : ℕ) → line < from → once line from n ≡ 0
once-below line from zero below = refl
once-below line from (suc n) below =
    omega (arith, ap one_if (ne_eqb line from (λ is. omega (arith, below, is))), once-below line (from + 1) n (omega (arith, below)))

pub once-few : (line from n : ℕ) → once line from n ≤ 1
once-few line from zero = omega arith
once-few line from (suc n) =
    elim (cases_eq line from) [
      | inl is ↦ omega (arith, ap one_if (eq-eqb line from is), once-below line (from + 1) n (omega (arith, is)))
      | inr other ↦ omega (arith, ap one_if (ne_eqb line from other), once-few line (from + 1) n)
    ]

once-there : (line from n : ℕ) → from ≤ line → line < from + n → once line from n ≡ 1
once-there line from zero le lt = absurd (omega (arith, le, lt))
once-there line from (suc n) le lt =
    elim (cases_eq line from) [
      | inl is ↦ omega (arith, ap one_if (eq-eqb line from is), once-below line (from + 1) n (omega (arith, is)))
      | inr other ↦ omega (arith, ap one_if (ne_eqb line from other), once-there line (from + 1) n (omega (arith, le, other)) (omega (arith, lt)))
    ]

owners_among-more : (f : ℕ → ℕ) (k from n : ℕ) → owners_among f (suc k) from n ≡ once (f k) from n + owners_among f k from n
owners_among-more f k from zero = refl
owners_among-more f k from (suc n) = omega (arith, owners_among-more f k (from + 1) n)

owners_among-none : (f : ℕ → ℕ) (from n : ℕ) → owners_among f zero from n ≡ 0
owners_among-none f from zero = refl
owners_among-none f from (suc n) = omega (arith, owners_among-none f (from + 1) n)

-- each slot has one line
owners-few : (f : ℕ → ℕ) (k from n : ℕ) → owners_among f k from n ≤ k
owners-few f zero from n = omega (arith, owners_among-none f from n)
owners-few f (suc k) from n = omega (arith, owners_among-more f k from n, once-few (f k) from n, owners-few f k from n)

pub owners-some : (f : ℕ → ℕ) (line k slot : ℕ) → slot < k → f slot ≡ line → 1 ≤ owners f line k
owners-some f line zero slot lt is = absurd (omega (arith, lt))
owners-some f line (suc k) slot lt is =
    elim (cases_eq slot k) [
      | inl same ↦ omega (arith, ap one_if (eq-eqb (f k) line (sym (ap f same) ∙ is)))
      | inr other ↦ omega (arith, owners-some f line k slot (omega (arith, lt, other)) is)
    ]

-- where each of n lines is worn or has a slot, and one of them both
worn_or_owned : (worn : ℕ → Bool) (f : ℕ → ℕ) (base slots line from n : ℕ)
    → ((at : ℕ) → from ≤ at → at < from + n → 1 + one_if (line == at) ≤ one_if (worn (base + at)) + owners f at slots)
    → n + once line from n ≤ worn_among worn (base + from) n + owners_among f slots from n
worn_or_owned worn f base slots line from zero each = omega arith
worn_or_owned worn f base slots line from (suc n) each =
    let here : 1 + one_if (line == from) ≤ one_if (worn (base + from)) + owners f from slots = each from (omega arith) (omega arith) in
    let step : base + from + 1 ≡ base + (from + 1) = omega arith in
    let next : worn_among worn (base + from + 1) n ≡ worn_among worn (base + (from + 1)) n = ap (λ k. worn_among worn k n) step in
    let rest : n + once line (from + 1) n ≤ worn_among worn (base + (from + 1)) n + owners_among f slots (from + 1) n =
    worn_or_owned worn f base slots line (from + 1) n (λ at le lt. each at (omega (arith, le)) (omega (arith, lt))) in
    omega (arith, here, next, rest)

-- of slots and spares, so many lines are worn as there are spares, and one more
pub worn-many : (worn : ℕ → Bool) (f : ℕ → ℕ) (base slots spares line : ℕ) → line < slots + spares
    → ((at : ℕ) → at < slots + spares → 1 + one_if (line == at) ≤ one_if (worn (base + at)) + owners f at slots)
    → spares + 1 ≤ worn_among worn base (slots + spares)
worn-many worn f base slots spares line exists each =
    let all : slots + spares + once line 0 (slots + spares) ≤ worn_among worn (base + 0) (slots + spares) + owners_among f slots 0 (slots + spares) =
    worn_or_owned worn f base slots line 0 (slots + spares) (λ at le lt. each at (omega (arith, lt))) in
    let first : worn_among worn (base + 0) (slots + spares) ≡ worn_among worn base (slots + spares) = ap (λ k. worn_among worn k (slots + spares)) (omega arith) in
    omega (arith, all, first, once-there line 0 (slots + spares) (omega arith) (omega (arith, exists)), owners-few f slots 0 (slots + spares))
