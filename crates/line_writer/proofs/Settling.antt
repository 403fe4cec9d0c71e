-- What a phase has settled when no round of it is left.
use Rattle.std.proofs.Common.{◌≡◌, ℕ, zero, suc, ◌+◌, ◌-◌, ◌*◌, ◌<◌, ◌≤◌, ◌⊎◌, ◌&&◌, Bool, true, false, List, sym, ap, ◌∙◌, inl, inr, arith}
use Rattle.std.proofs.lemmas.Bool.{cases_Bool, both_ways, and_from, lt-ltb, le-leb, false_from_ne_true}
use Rattle.cell_rows.{specs.Rows.{bit_of, xor, members}, proofs.ByteLemmas.xor_false}
use Rattle.ecp_line.specs.Layout.{active, is_later, source_below, pointer, number, width, pointer_cell, replacement_cell, full_cell, activity_cell, Prefix, IsLayout}
use Rattle.ecp_line.proofs.{Activity.active-full, Digits.{number-none, number-one, number-zero}, Inert.{Prefix-more, too_many}, Places.{full-lt, pointer-lt, entry-order}}
use Rattle.line_writer.{specs.Phases.{IsCleared, IsReady, IsClearing, IsFilling, IsPointing, IsStuckActivity}, proofs.Keeping.clearing-within}

-- a cell of the mask that isn't wrong is as wanted
pub right : (which want f : ℕ → Bool) (n : ℕ) → which n ≡ true → (which n && xor (f n) (want n)) ≡ false → f n ≡ want n
right which want f n on h =
    xor_false (f n) (want n) (false_from_ne_true _ (λ e. both_ways _ h (and_from (which n) _ on e)))

-- ---- clearing

pub cleared-all : (B E w : ℕ) (want which f : ℕ → Bool) → IsClearing B E w want which f → ((n : ℕ) → (which n && xor (f n) (want n)) ≡ false) → IsCleared B E f w
cleared-all B E w want which f phase none n low high =
    let count = phase.entries in
    let on : which n ≡ true = phase.cells n ∙ and_from _ _ (lt-ltb _ _ (omega arith)) (lt-ltb _ _ high) in
    right which want f n on (none n) ∙ phase.zero n on

-- where none of those cells holds 1, there is nothing to clear
pub cleared-already : (B E w : ℕ) (which f : ℕ → Bool) → active B E f ≡ w → ((n : ℕ) → which n ≡ is_later B E f n) → ((n : ℕ) → (which n && f n) ≡ false) → IsCleared B E f w
cleared-already B E w which f count cells none n low high =
    let on : which n ≡ true = cells n ∙ and_from _ _ (lt-ltb _ _ (omega arith)) (lt-ltb _ _ high) in
    false_from_ne_true _ (λ e. both_ways _ (none n) (and_from (which n) _ on e))

pub cleared-worn : (B E w : ℕ) (want which f stuck : ℕ → Bool) (c : ℕ) → IsClearing B E w want which f → which c ≡ true → stuck c ≡ true → IsStuckActivity B E f stuck c
cleared-worn B E w want which f stuck c phase on at =
    let (low, high) = clearing-within B E w want which f phase c on in
    let count = phase.entries in
    let full : f (full_cell B E) ≡ false = false_from_ne_true _ (λ e. let all = active-full B E f e in omega arith) in
    record { is = at; activity = inr (full, c - activity_cell B E, omega arith, omega arith) }

-- ---- filling

-- the source of a bit that is wrong is left wrong
pub filled-wrong : (B E w : ℕ) (bytes : List ℕ) (want which f : ℕ → Bool) (x : ℕ) → IsFilling B E w bytes want which f → x < 8 * B
    → xor (f (source_below B f x w)) (bit_of bytes x) ≡ true → (which (source_below B f x w) && xor (f (source_below B f x w)) (want (source_below B f x w))) ≡ true
filled-wrong B E w bytes want which f x phase low h =
    let (on, at) = phase.wanted.sources x low in
    and_from (which (source_below B f x w)) _ on (ap (xor (f (source_below B f x w))) at ∙ h)

pub filled-worn : (B M E : ℕ) (f stuck : ℕ → Bool) (x : ℕ) → IsLayout B M E → x < 8 * B → Prefix B M f stuck E → stuck (source_below B f x E) ≡ true → E < members stuck (8 * (B + M))
filled-worn B M E f stuck x layout low before at =
    let room = full-lt B M E layout in too_many B M f stuck E x layout.digits (omega arith) low before at

pub filled-ready : (B E w : ℕ) (bytes : List ℕ) (want which f : ℕ → Bool) → IsFilling B E w bytes want which f → w < E → IsReady B E w f
filled-ready B E w bytes want which f phase entry =
    let count = phase.entries in
    record {
      entry = entry;
      full = false_from_ne_true _ (λ e. let all = active-full B E f e in omega arith);
      most = omega arith;
      entries = λ l. count;
      cleared = phase.cleared;
    }

-- ---- pointing

-- two runs of cells give one number, or differ at a cell
run-differs : (f g : ℕ → Bool) (from n : ℕ) → (number f from n ≡ number g from n) ⊎ ((i : ℕ) × (from ≤ i) × (i < from + n) × (xor (f i) (g i) ≡ true))
run-differs f g from zero = inl (number-none f from ∙ sym (number-none g from))
run-differs f g from (suc n) =
    elim (run-differs f g from n) as (λ _. (number f from (suc n) ≡ number g from (suc n)) ⊎ ((i : ℕ) × (from ≤ i) × (i < from + suc n) × (xor (f i) (g i) ≡ true))) [
      | inl same ↦ elim (cases_Bool (xor (f (from + n)) (g (from + n)))) as (λ _. (number f from (suc n) ≡ number g from (suc n)) ⊎ ((i : ℕ) × (from ≤ i) × (i < from + suc n) × (xor (f i) (g i) ≡ true))) [
        | inl h ↦ inr (from + n, omega arith, omega arith, h)
        | inr h ↦ inl (longer same (xor_false _ _ h))
      ]
      | inr (i, low, high, h) ↦ inr (i, low, omega arith, h)
    ]
  where
    longer : number f from n ≡ number g from n → f (from + n) ≡ g (from + n) → number f from (suc n) ≡ number g from (suc n)
    longer same here =
        let e : suc n ≡ n + 1 = omega arith in
        ap (number f from) e ∙ (elim (cases_Bool (g (from + n))) as (λ _. number f from (n + 1) ≡ number g from (n + 1)) [
          | inl on ↦ let a = number-one f from n (here ∙ on) in let b = number-one g from n on in omega arith
          | inr off ↦ let a = number-zero f from n (here ∙ off) in let b = number-zero g from n off in omega arith
        ]) ∙ ap (number g from) (sym e)

-- the pointer is right, or one of its cells is stuck: either pays for the entry
pub pointed : (B M E w : ℕ) (bytes : List ℕ) (want which f stuck : ℕ → Bool) → IsLayout B M E → IsPointing B E w bytes want which f stuck
    → ((n : ℕ) → (which n && xor (f n) (want n)) ≡ true → stuck n ≡ true) → Prefix B M f stuck w → Prefix B M f stuck (w + 1)
pointed B M E w bytes want which f stuck layout phase left before =
    let order = entry-order B w E phase.ready.entry in
    let room = full-lt B M E layout in
    Prefix-more B M f stuck w (pointer B want w) layout.digits (omega arith) (pointer-lt B want w layout.digits) before phase.charged
    (elim (run-differs f want (pointer_cell B w) (width B)) as (λ _. (pointer B f w ≡ pointer B want w) ⊎ ((n : ℕ) × (pointer_cell B w ≤ n) × (n < replacement_cell B w) × (stuck n ≡ true))) [
      | inl same ↦ inl same
      | inr (n, low, high, h) ↦ inr (n, low, high, left n (and_from (which n) _ (phase.cells n ∙ and_from _ _ (le-leb _ _ low) (lt-ltb _ _ high)) h))
    ])

-- ---- switching
