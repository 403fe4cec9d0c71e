-- Lists of bytes, bit by bit.
use Rattle.std.proofs.Common.{◌≡◌, ◌≢◌, ℕ, ◌+◌, ◌-◌, ◌*◌, ◌/◌, ◌%◌, ◌<◌, ◌≤◌, ◌&&◌, Bool, true, false, cond, eqb, List, ◌++◌, length, get_or, set, refl, sym, ◌∙◌, ap, inl, inr, arith, ext_get_or, get_or-set_same, get_or-set_other, eq-eqb, ne_eqb, w8, true≢false, not, min, max, bit_and, bit_or, bit_xor}
use Rattle.std.{specs.Int.{bit_at, trailing_zeros}, proofs.Math.ListN.get_or-append, proofs.lemmas.Bool.{cases_eq, cases_lt, eqb-true}}
use Rattle.std.proofs.lemmas.List.{get_or-append_right, get_or_past}
use Rattle.std.proofs.lemmas.Nat.Bits.{bit_at-zero, bit_at-lt, bit_at_xor, bit_at_and, bit_at_or, bit_at-trailing_zeros, same_from_bits_below}
use Rattle.cell_rows.specs.Rows.{bit_of, xor, bit_in}

-- the bits of the first list come first
pub bit_of-append : (a b : List ℕ) (n : ℕ) → n < 8 * length a → bit_of (a ++ b) n ≡ bit_of a n
bit_of-append a b n h = ap (λ x. eqb (bit_at x (n % 8)) 1) (get_or-append a b 0 (n / 8) (omega arith))

-- and then those of the second
pub bit_of-append_right : (a b : List ℕ) (size n : ℕ) → length a ≡ size → 8 * size ≤ n → bit_of (a ++ b) n ≡ bit_of b (n - 8 * size)
bit_of-append_right a b size n e h =
    let index : n / 8 - size ≡ (n - 8 * size) / 8 = omega arith in
    let low : n % 8 ≡ (n - 8 * size) % 8 = omega arith in
    ap (λ x. eqb (bit_at x (n % 8)) 1) (get_or-append_right a b size (n / 8) 0 e (omega arith) ∙ ap (λ i. get_or b i 0) index)
    ∙ ap (λ i. eqb (bit_at (get_or b ((n - 8 * size) / 8) 0) i) 1) low

-- past the end every bit is false
pub bit_of_past : (a : List ℕ) (n : ℕ) → 8 * length a ≤ n → bit_of a n ≡ false
bit_of_past a n h =
    ap (λ x. eqb (bit_at x (n % 8)) 1) (get_or_past a (n / 8) 0 (omega arith)) ∙ ap (λ x. eqb x 1) (bit_at-zero (n % 8))

-- a byte that differs in one bit, written back, changes that bit alone
pub bit_of-set : (bytes : List ℕ) (number byte : ℕ) (value : Bool) → number < 8 * length bytes → eqb (bit_at byte (number % 8)) 1 ≡ value
    → ((i : ℕ) → i < 8 → i ≢ number % 8 → bit_at byte i ≡ bit_at (get_or bytes (number / 8) 0) i)
    → (n : ℕ) → bit_of (set bytes (number / 8) byte) n ≡ cond (eqb n number) value (bit_of bytes n)
bit_of-set bytes number byte value within is kept n =
    let index_in : number / 8 < length bytes = omega arith in
    elim (cases_eq n number) as (λ _. bit_of (set bytes (number / 8) byte) n ≡ cond (eqb n number) value (bit_of bytes n)) [
      | inl same ↦
          rw (same, eq-eqb number number refl)
          (ap (λ x. eqb (bit_at x (number % 8)) 1) (get_or-set_same bytes (number / 8) byte 0 index_in) ∙ is)
      | inr other ↦
          rw (ne_eqb n number other)
          (elim (cases_eq (n / 8) (number / 8)) as (λ _. bit_of (set bytes (number / 8) byte) n ≡ bit_of bytes n) [
            | inl row ↦
                ap (λ x. eqb (bit_at (get_or (set bytes (number / 8) byte) x 0) (n % 8)) 1) row
                ∙ ap (λ x. eqb (bit_at x (n % 8)) 1) (get_or-set_same bytes (number / 8) byte 0 index_in)
                ∙ ap (λ x. eqb x 1) (kept (n % 8) (omega arith) (omega arith))
                ∙ ap (λ x. eqb (bit_at (get_or bytes x 0) (n % 8)) 1) (sym row)
            | inr apart ↦ ap (λ x. eqb (bit_at x (n % 8)) 1) (get_or-set_other bytes (number / 8) (n / 8) byte 0 apart)
          ])
    ]

-- two binary digits added without carry
one_xor : (a b : ℕ) → a < 2 → b < 2 → eqb ((a + b) % 2) 1 ≡ xor (eqb a 1) (eqb b 1)
one_xor a b small_a small_b =
    elim (cases_eq a 1) as (λ _. eqb ((a + b) % 2) 1 ≡ xor (eqb a 1) (eqb b 1)) [
      | inl a_one ↦
          (elim (cases_eq b 1) as (λ _. eqb ((a + b) % 2) 1 ≡ xor (eqb a 1) (eqb b 1)) [
            | inl b_one ↦ rw (a_one, b_one) refl
            | inr b_zero ↦ let none : b ≡ 0 = omega arith in rw (a_one, none) refl
          ])
      | inr a_zero ↦
          let none_a : a ≡ 0 = omega arith in
          (elim (cases_eq b 1) as (λ _. eqb ((a + b) % 2) 1 ≡ xor (eqb a 1) (eqb b 1)) [
            | inl b_one ↦ rw (none_a, b_one) refl
            | inr b_zero ↦ let none : b ≡ 0 = omega arith in rw (none_a, none) refl
          ])
    ]

-- the smaller of two binary digits
one_and : (a b : ℕ) → a < 2 → b < 2 → eqb (min a b) 1 ≡ eqb a 1 && eqb b 1
one_and a b small_a small_b =
    elim (cases_eq a 1) as (λ _. eqb (min a b) 1 ≡ eqb a 1 && eqb b 1) [
      | inl a_one ↦
          (elim (cases_eq b 1) as (λ _. eqb (min a b) 1 ≡ eqb a 1 && eqb b 1) [
            | inl b_one ↦ rw (a_one, b_one) refl
            | inr b_zero ↦ let none : b ≡ 0 = omega arith in rw (a_one, none) refl
          ])
      | inr a_zero ↦
          let none_a : a ≡ 0 = omega arith in
          (elim (cases_eq b 1) as (λ _. eqb (min a b) 1 ≡ eqb a 1 && eqb b 1) [
            | inl b_one ↦ rw (none_a, b_one) refl
            | inr b_zero ↦ let none : b ≡ 0 = omega arith in rw (none_a, none) refl
          ])
    ]

-- byte by byte, c is a xor b
pub record XorsBytes (a b c : List ℕ) : Type 0 where
  pub bytes : (k : ℕ) → get_or c k 0 ≡ bit_xor (get_or a k 0) (get_or b k 0)

-- byte by byte, c is a and b
pub record AndsBytes (a b c : List ℕ) : Type 0 where
  pub bytes : (k : ℕ) → get_or c k 0 ≡ bit_and (get_or a k 0) (get_or b k 0)

pub digit_xor : (a b i : ℕ) → eqb (bit_at (bit_xor a b) i) 1 ≡ xor (eqb (bit_at a i) 1) (eqb (bit_at b i) 1)
digit_xor a b i = ap (λ x. eqb x 1) (bit_at_xor a b i) ∙ one_xor _ _ (bit_at-lt a i) (bit_at-lt b i)

pub digit_and : (a b i : ℕ) → eqb (bit_at (bit_and a b) i) 1 ≡ eqb (bit_at a i) 1 && eqb (bit_at b i) 1
digit_and a b i = ap (λ x. eqb x 1) (bit_at_and a b i) ∙ one_and _ _ (bit_at-lt a i) (bit_at-lt b i)

pub bit_of_xor : (a b c : List ℕ) → XorsBytes a b c → (n : ℕ) → bit_of c n ≡ xor (bit_of a n) (bit_of b n)
bit_of_xor a b c h n =
    ap (λ x. eqb (bit_at x (n % 8)) 1) (h.bytes (n / 8)) ∙ digit_xor (get_or a (n / 8) 0) (get_or b (n / 8) 0) (n % 8)

pub bit_of_and : (a b c : List ℕ) → AndsBytes a b c → (n : ℕ) → bit_of c n ≡ bit_of a n && bit_of b n
bit_of_and a b c h n =
    ap (λ x. eqb (bit_at x (n % 8)) 1) (h.bytes (n / 8)) ∙ digit_and (get_or a (n / 8) 0) (get_or b (n / 8) 0) (n % 8)

-- what is so below n, and what is kept from n on, is so everywhere, since past the end both lists are 0
pub xors_all : (a b c : List ℕ) (n : ℕ) → length a ≡ length b → length a ≤ n
    → ((k : ℕ) → k < n → get_or c k 0 ≡ bit_xor (get_or a k 0) (get_or b k 0))
    → ((k : ℕ) → n ≤ k → get_or c k 0 ≡ get_or a k 0) → XorsBytes a b c
xors_all a b c n len all done kept = record {
  bytes = λ k.
      elim (cases_lt k n) [
        | inl low ↦ done k low
        | inr high ↦
            kept k high ∙ get_or_past a k 0 (omega arith)
            ∙ sym (rw (get_or_past a k 0 (omega arith), get_or_past b k 0 (omega arith)) refl)
      ];
}

pub ands_all : (a b c : List ℕ) (n : ℕ) → length a ≡ length b → length a ≤ n
    → ((k : ℕ) → k < n → get_or c k 0 ≡ bit_and (get_or a k 0) (get_or b k 0))
    → ((k : ℕ) → n ≤ k → get_or c k 0 ≡ get_or a k 0) → AndsBytes a b c
ands_all a b c n len all done kept = record {
  bytes = λ k.
      elim (cases_lt k n) [
        | inl low ↦ done k low
        | inr high ↦
            kept k high ∙ get_or_past a k 0 (omega arith)
            ∙ sym (rw (get_or_past a k 0 (omega arith)) refl)
      ];
}

-- binary digits that the test for 1 cannot tell apart
same_digit : (a b : ℕ) → a < 2 → b < 2 → eqb a 1 ≡ eqb b 1 → a ≡ b
same_digit a b small_a small_b e =
    elim (cases_eq a 1) [
      | inl one_a ↦
          elim (cases_eq b 1) [
            | inl one_b ↦ omega arith
            | inr other_b ↦ absurd (true≢false (sym (eq-eqb a 1 one_a) ∙ e ∙ ne_eqb b 1 other_b))
          ]
      | inr other_a ↦
          elim (cases_eq b 1) [
            | inl one_b ↦ absurd (true≢false (sym (eq-eqb b 1 one_b) ∙ sym e ∙ ne_eqb a 1 other_a))
            | inr other_b ↦ omega arith
          ]
    ]

-- lists of bytes with the same bits are equal
pub bytes_from_bits : (a b : List ℕ) → length a ≡ length b → ((k : ℕ) → k < length a → get_or a k 0 < 256)
    → ((k : ℕ) → k < length b → get_or b k 0 < 256) → ((n : ℕ) → bit_of a n ≡ bit_of b n) → a ≡ b
bytes_from_bits a b len small_a small_b same =
    ext_get_or 0 a b len
    (λ k h.
    same_from_bits_below 8 _ _ (small_a k h) (small_b k (omega arith))
    (λ i low.
    let index : (8 * k + i) / 8 ≡ k = omega arith in
    let digit : (8 * k + i) % 8 ≡ i = omega arith in
    let here : eqb (bit_at (get_or a k 0) i) 1 ≡ eqb (bit_at (get_or b k 0) i) 1 =
    ap (λ x. eqb (bit_at (get_or a x 0) i) 1) (sym index)
    ∙ ap (λ x. eqb (bit_at (get_or a ((8 * k + i) / 8) 0) x) 1) (sym digit)
    ∙ same (8 * k + i)
    ∙ ap (λ x. eqb (bit_at (get_or b ((8 * k + i) / 8) 0) x) 1) digit
    ∙ ap (λ x. eqb (bit_at (get_or b x 0) i) 1) index in
    same_digit _ _ (bit_at-lt (get_or a k 0) i) (bit_at-lt (get_or b k 0) i) here))

-- equal where exactly one is never so
pub xor_false : (a b : Bool) → xor a b ≡ false → a ≡ b
xor_false true true e = refl
xor_false true false e = absurd (true≢false e)
xor_false false b e = sym e

-- a byte that is not 0 has a bit
pub some_bit : (byte : ℕ) → byte < 256 → byte ≢ 0 → (i : ℕ) × (i < 8) × (bit_at byte i ≡ 1)
some_bit byte small other =
    let facts = bit_at-trailing_zeros w8 byte (omega arith) small in
    (trailing_zeros w8 byte, facts.0, facts.1)

-- so does the list that it stands in
pub some_bit_of : (bytes : List ℕ) (k : ℕ) → k < length bytes → get_or bytes k 0 < 256 → get_or bytes k 0 ≢ 0
    → (n : ℕ) × (n < 8 * length bytes) × (bit_of bytes n ≡ true)
some_bit_of bytes k within small other =
    let (i, low, is) = some_bit (get_or bytes k 0) small other in
    let index : (8 * k + i) / 8 ≡ k = omega arith in
    let digit : (8 * k + i) % 8 ≡ i = omega arith in (
      8 * k + i,
      omega arith,
      ap (λ x. eqb (bit_at (get_or bytes x 0) ((8 * k + i) % 8)) 1) index
          ∙ ap (λ x. eqb (bit_at (get_or bytes k 0) x) 1) digit ∙ eq-eqb _ 1 is,
    )

-- zeros have no bit
pub no_bit_of : (bytes : List ℕ) → ((k : ℕ) → k < length bytes → get_or bytes k 0 ≡ 0) → (n : ℕ) → bit_of bytes n ≡ false
no_bit_of bytes zeros n =
    elim (cases_lt (n / 8) (length bytes)) as (λ _. bit_of bytes n ≡ false) [
      | inl low ↦ ap (λ x. eqb (bit_at x (n % 8)) 1) (zeros (n / 8) low) ∙ ap (λ x. eqb x 1) (bit_at-zero (n % 8))
      | inr high ↦ bit_of_past bytes n (omega arith)
    ]

-- a byte that is 0 has no bit
pub no_bit_in : (bytes : List ℕ) (k : ℕ) → eqb (get_or bytes k 0) 0 ≡ true → (n : ℕ) → 8 * k ≤ n → n < 8 * k + 8 → bit_of bytes n ≡ false
no_bit_in bytes k clear n low high =
    let index : n / 8 ≡ k = omega arith in
    ap (λ x. eqb (bit_at (get_or bytes x 0) (n % 8)) 1) index
    ∙ ap (λ x. eqb (bit_at x (n % 8)) 1) (eqb-true _ _ clear) ∙ ap (λ x. eqb x 1) (bit_at-zero (n % 8))

-- the greater of two binary digits
one_or : (a b : ℕ) → a < 2 → b < 2 → eqb (max a b) 1 ≡ cond (eqb a 1) true (eqb b 1)
one_or a b small_a small_b =
    elim (cases_eq a 1) as (λ _. eqb (max a b) 1 ≡ cond (eqb a 1) true (eqb b 1)) [
      | inl a_one ↦ let most : max a b ≡ 1 = omega arith in rw (most, a_one) refl
      | inr a_zero ↦
          let none_a : a ≡ 0 = omega arith in
          let other : max a b ≡ b = omega arith in
          rw (other, none_a) refl
    ]

pub digit_or : (a b i : ℕ) → bit_in (bit_or a b) i ≡ cond (bit_in a i) true (bit_in b i)
digit_or a b i = ap (λ x. eqb x 1) (bit_at_or a b i) ∙ one_or _ _ (bit_at-lt a i) (bit_at-lt b i)

pick : (o w m : Bool) → xor o (xor o w && m) ≡ cond m w o
pick o w m = grind arith

-- a choice between two bytes, bit by bit
pub digit_choice : (byte mask want i : ℕ) → bit_in (bit_xor byte (bit_and (bit_xor byte want) mask)) i ≡ cond (bit_in mask i) (bit_in want i) (bit_in byte i)
digit_choice byte mask want i =
    digit_xor byte (bit_and (bit_xor byte want) mask) i
    ∙ ap (xor (bit_in byte i)) (digit_and (bit_xor byte want) mask i ∙ ap (λ x. x && bit_in mask i) (digit_xor byte want i))
    ∙ pick (bit_in byte i) (bit_in want i) (bit_in mask i)

lacking : (b o : Bool) → xor b (b && o) ≡ not o && b
lacking b o = grind arith

pub digit_without : (byte other i : ℕ) → bit_in (bit_xor byte (bit_and byte other)) i ≡ not (bit_in other i) && bit_in byte i
digit_without byte other i =
    digit_xor byte (bit_and byte other) i ∙ ap (xor (bit_in byte i)) (digit_and byte other i) ∙ lacking (bit_in byte i) (bit_in other i)

-- both, the other first
pub swapped : (a b : Bool) → a && b ≡ b && a
swapped a b = grind arith

-- bit i of byte k
pub bit_of_byte : (bytes : List ℕ) (k i : ℕ) → i < 8 → bit_of bytes (8 * k + i) ≡ bit_in (get_or bytes k 0) i
bit_of_byte bytes k i h =
    let index : (8 * k + i) / 8 ≡ k = omega arith in
    let low : (8 * k + i) % 8 ≡ i = omega arith in
    ap (λ x. eqb (bit_at (get_or bytes x 0) ((8 * k + i) % 8)) 1) index ∙ ap (λ x. eqb (bit_at (get_or bytes k 0) x) 1) low

-- a byte is written
pub bit_of_written : (bytes : List ℕ) (k byte i : ℕ) → k < length bytes → i < 8 → bit_of (set bytes k byte) (8 * k + i) ≡ bit_in byte i
bit_of_written bytes k byte i within h =
    bit_of_byte (set bytes k byte) k i h ∙ ap (λ x. eqb (bit_at x i) 1) (get_or-set_same bytes k byte 0 within)

pub bit_of_kept : (bytes : List ℕ) (k byte n : ℕ) → n / 8 ≢ k → bit_of (set bytes k byte) n ≡ bit_of bytes n
bit_of_kept bytes k byte n apart = ap (λ x. eqb (bit_at x (n % 8)) 1) (get_or-set_other bytes k (n / 8) byte 0 apart)
