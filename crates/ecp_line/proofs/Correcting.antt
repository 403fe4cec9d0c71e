-- One entry after the other: how a row is corrected, and how the sources are collected.
use Rattle.std.proofs.Common.{◌≡◌, ◌≢◌, ℕ, ◌+◌, ◌*◌, ◌<◌, ◌≤◌, Bool, true, false, cond, List, sym, ap, ◌∙◌, inl, inr, arith, eqb}
use Rattle.std.proofs.lemmas.Bool.{eq-eqb, ne_eqb, cases_eq, cases_lt, cond-true, cond-false, both_ways}
use Rattle.cell_rows.specs.Rows.{bit_of}
use Rattle.ecp_line.specs.Layout.{source_below, pointer, pointer_cell, replacement_cell, IsWanted}
use Rattle.ecp_line.proofs.Sources.{source-none, source-passed, source-replaced, source-apart, source-lt}

-- a cell that was set, and one that was not
pub set-same : (new old : ℕ → Bool) (p : ℕ) (v : Bool) → ((n : ℕ) → new n ≡ cond (eqb n p) v (old n)) → (n : ℕ) → n ≡ p → new n ≡ v
set-same new old p v set n e = set n ∙ cond-true (eqb n p) v (old n) (eq-eqb n p e)

pub set-other : (new old : ℕ → Bool) (p : ℕ) (v : Bool) → ((n : ℕ) → new n ≡ cond (eqb n p) v (old n)) → (n : ℕ) → n ≢ p → new n ≡ old n
set-other new old p v set n ne = set n ∙ cond-false (eqb n p) v (old n) (ne_eqb n p ne)

-- the bit to which one more entry points is read from its replacement cell
pub corrected-more : (B : ℕ) (f old new : ℕ → Bool) (k p : ℕ) (v : Bool) → p ≡ pointer B f k → v ≡ f (replacement_cell B k)
    → ((n : ℕ) → new n ≡ cond (eqb n p) v (old n)) → ((x : ℕ) → x < 8 * B → old x ≡ f (source_below B f x k))
    → (x : ℕ) → x < 8 * B → new x ≡ f (source_below B f x (k + 1))
corrected-more B f old new k p v at value set before x low =
    elim (cases_eq x p) as (λ _. new x ≡ f (source_below B f x (k + 1))) [
      | inl e ↦ set-same new old p v set x e ∙ value ∙ ap f (sym (source-replaced B f x k (e ∙ at)))
      | inr ne ↦ set-other new old p v set x ne ∙ before x low ∙ ap f (sym (source-passed B f x k (λ e. ne (e ∙ sym at))))
    ]

-- with no entry, each data cell is its bit's source
pub wanted-none : (B : ℕ) (f : ℕ → Bool) (bytes : List ℕ) (want mask : ℕ → Bool) → ((n : ℕ) → n < 8 * B → (mask n ≡ true) × (want n ≡ bit_of bytes n))
    → ((n : ℕ) → 8 * B ≤ n → (mask n ≡ false) × (want n ≡ f n)) → IsWanted B 0 f bytes want mask
wanted-none B f bytes want mask front check = record {
  sources = λ x low. (ap mask (source-none B f x) ∙ (front x low).0, ap want (source-none B f x) ∙ (front x low).1);
  masked = λ n h. elim (cases_lt n (8 * B)) as (λ _. (x : ℕ) × (x < 8 * B) × (n ≡ source_below B f x 0)) [
    | inl low ↦ (n, low, sym (source-none B f n))
    | inr le ↦ absurd (both_ways (mask n) ((check n le).0) h)
  ];
  others = λ n h. elim (cases_lt n (8 * B)) as (λ _. want n ≡ f n) [
    | inl low ↦ absurd (both_ways (mask n) h ((front n low).0))
    | inr le ↦ (check n le).1
  ];
}

-- one more entry takes the bit to which it points from its source before
pub wanted-more : (B : ℕ) (f : ℕ → Bool) (bytes : List ℕ) (w m w1 m1 w2 m2 : ℕ → Bool) (k p s r : ℕ) (old value : Bool)
    → p ≡ pointer B f k → p < 8 * B → s ≡ source_below B f p k → r ≡ replacement_cell B k → old ≡ f s → value ≡ bit_of bytes p
    → ((n : ℕ) → w1 n ≡ cond (eqb n s) old (w n)) → ((n : ℕ) → m1 n ≡ cond (eqb n s) false (m n))
    → ((n : ℕ) → w2 n ≡ cond (eqb n r) value (w1 n)) → ((n : ℕ) → m2 n ≡ cond (eqb n r) true (m1 n))
    → IsWanted B k f bytes w m → IsWanted B (k + 1) f bytes w2 m2
wanted-more B f bytes w m w1 m1 w2 m2 k p s r old value at low from to as_it_is is_bit set_w1 set_m1 set_w2 set_m2 before = record {
  sources = λ x l. elim (cases_eq x p) as (λ _. (m2 (source_below B f x (k + 1)) ≡ true) × (w2 (source_below B f x (k + 1)) ≡ bit_of bytes x)) [
    | inl e ↦
        let q : source_below B f x (k + 1) ≡ r = source-replaced B f x k (e ∙ at) ∙ sym to in
        (set-same m2 m1 r true set_m2 _ q, set-same w2 w1 r value set_w2 _ q ∙ is_bit ∙ ap (bit_of bytes) (sym e))
    | inr ne ↦
        let q : source_below B f x (k + 1) ≡ source_below B f x k = source-passed B f x k (λ e. ne (e ∙ sym at)) in
        let below : source_below B f x k < pointer_cell B k = source-lt B f x k l in
        let apart : source_below B f x k ≢ s = λ e. ne (source-apart B f x p k l low (e ∙ from)) in
        let free : source_below B f x k ≢ r = λ e. omega arith in (
          ap m2 q ∙ set-other m2 m1 r true set_m2 _ free ∙ set-other m1 m s false set_m1 _ apart ∙ (before.sources x l).0,
          ap w2 q ∙ set-other w2 w1 r value set_w2 _ free ∙ set-other w1 w s old set_w1 _ apart ∙ (before.sources x l).1,
        )
  ];
  masked = λ n h. elim (cases_eq n r) as (λ _. (x : ℕ) × (x < 8 * B) × (n ≡ source_below B f x (k + 1))) [
    | inl e ↦ (p, low, e ∙ to ∙ sym (source-replaced B f p k at))
    | inr ne ↦ elim (cases_eq n s) as (λ _. (x : ℕ) × (x < 8 * B) × (n ≡ source_below B f x (k + 1))) [
      | inl e ↦ absurd (both_ways (m1 n) (set-same m1 m s false set_m1 n e) (sym (set-other m2 m1 r true set_m2 n ne) ∙ h))
      | inr apart ↦
          let (x, l, e) = before.masked n (sym (set-other m1 m s false set_m1 n apart) ∙ sym (set-other m2 m1 r true set_m2 n ne) ∙ h) in
          (x, l, e ∙ sym (source-passed B f x k (λ same. apart (e ∙ ap (λ (y : ℕ). source_below B f y k) (same ∙ sym at) ∙ sym from))))
    ]
  ];
  others = λ n h. elim (cases_eq n r) as (λ _. w2 n ≡ f n) [
    | inl e ↦ absurd (both_ways (m2 n) h (set-same m2 m1 r true set_m2 n e))
    | inr ne ↦ set-other w2 w1 r value set_w2 n ne ∙ (elim (cases_eq n s) as (λ _. w1 n ≡ f n) [
      | inl e ↦ set-same w1 w s old set_w1 n e ∙ as_it_is ∙ ap f (sym e)
      | inr apart ↦ set-other w1 w s old set_w1 n apart ∙ before.others n (sym (set-other m1 m s false set_m1 n apart) ∙ sym (set-other m2 m1 r true set_m2 n ne) ∙ h)
    ])
  ];
}
