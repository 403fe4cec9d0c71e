-- Rows from their cells, and a line as its words draw it.
use Rattle.std.proofs.Common.{◌≡◌, ℕ, zero, suc, ◌+◌, ◌-◌, ◌*◌, ◌/◌, ◌%◌, ◌<◌, ◌≤◌, Bool, true, false, cond, eqb, length, get_or, refl, ◌∙◌, ap, inl, inr, arith, slice_index}
use Rattle.std.{specs.Int.bit_at, proofs.lemmas.Bool.cases_lt, proofs.lemmas.List.get_or_past, proofs.lemmas.List.FromFn.{get_or-map-range_with_len, length-map-range_with_len}}
use Rattle.std.proofs.lemmas.Nat.Bits.{bit_at_cat_low, bit_at_cat_high}
use Rattle.cell_rows.{specs.Rows.{bit_of, cell}, specs.declared.array.Wear.Wear, specs.declared.row.Cells.Cells, proofs.RowLemmas.{cell-bits, cell-meta, cell-zeros, cell_past}}
use Rattle.seeded_lines.specs.{Counts.count, Drawn.{number_from, bytes_from, row_of, digits_of, word_of, drawn_line, HaveSameLife}}
use Rattle.seeded_lines.specs.{Planes.{bit_in, number_of, digit, zero_digits, blank_planes}, Seeded.{LifeLine, IsDrawn, seeded_cell, left_of, endurance, miss_limit, stuck_value}}
use Rattle.seeded_lines.{specs.declared.counts.Counts.Counts, specs.declared.digits.Digits.Digits, proofs.PlaneLemmas.{digit-is, digit-zeros}}
use Rattle.seeded_lines.proofs.SeededLemmas.{left_is, left_size}

one_bit : (b : Bool) → eqb (bit_at (cond b 1 0) 0) 1 ≡ b
one_bit true = refl
one_bit false = refl

one_small : (b : Bool) → cond b 1 0 < 2
one_small true = omega arith
one_small false = omega arith

-- a number has the bits that it is made of
number_bit : (bit : ℕ → Bool) (k w i : ℕ) → i < w → bit_in (number_from bit k w) i ≡ bit (k + i)
number_bit bit k zero i h = absurd (omega arith)
number_bit bit k (suc w) zero h =
    let here : k ≡ k + 0 = omega arith in
    ap (λ x. eqb x 1) (bit_at_cat_low (number_from bit (k + 1) w) 1 (cond (bit k) 1 0) 0 (omega arith)) ∙ one_bit (bit k) ∙ ap bit here
number_bit bit k (suc w) (suc i) h =
    let next : k + 1 + i ≡ k + suc i = omega arith in
    let less : suc i - 1 ≡ i = omega arith in
    ap (λ x. eqb x 1) (bit_at_cat_high (number_from bit (k + 1) w) 1 (cond (bit k) 1 0) (suc i) (one_small (bit k)) (omega arith))
    ∙ ap (bit_in (number_from bit (k + 1) w)) less
    ∙ number_bit bit (k + 1) w i (omega (arith, h)) ∙ ap bit next

bytes_at : (bit : ℕ → Bool) (from n j : ℕ) → j < n → get_or (bytes_from bit from n) j 0 ≡ number_from bit (8 * (from + j)) 8
bytes_at bit from n j h = get_or-map-range_with_len (λ k. number_from bit (8 * k) 8) from n j (from + j) 0 h refl

bytes_size : (bit : ℕ → Bool) (from n : ℕ) → length (bytes_from bit from n) ≡ n
bytes_size bit from n = length-map-range_with_len (λ k. number_from bit (8 * k) 8) from n

bytes_bit : (bit : ℕ → Bool) (from n i : ℕ) → i < 8 * n → bit_of (bytes_from bit from n) i ≡ bit (8 * from + i)
bytes_bit bit from n i h =
    let index : 8 * (from + i / 8) + i % 8 ≡ 8 * from + i = omega arith in
    ap (λ x. eqb (bit_at x (i % 8)) 1) (bytes_at bit from n (i / 8) (omega (arith, h)))
    ∙ number_bit bit (8 * (from + i / 8)) 8 (i % 8) (omega arith) ∙ ap bit index

pub row_of-cell : (B M : ℕ) (bit : ℕ → Bool) (n : ℕ) → n < 8 * (B + M) → cell (row_of B M bit) n ≡ bit n
unfolding row_of
row_of-cell B M bit n h =
    let row : Cells B M = row_of B M bit in
    elim (cases_lt n (8 * B)) as (λ _. cell row n ≡ bit n) [
      | inl low ↦
          let here : 8 * 0 + n ≡ n = omega arith in
          cell-bits row n (bytes_size bit 0 B) low ∙ bytes_bit bit 0 B n low ∙ ap bit here
      | inr high ↦
          let here : 8 * B + (n - 8 * B) ≡ n = omega (arith, high) in
          cell-meta row n (bytes_size bit 0 B) high ∙ bytes_bit bit B M (n - 8 * B) (omega (arith, h, high)) ∙ ap bit here
    ]

-- past the end it is false
row_of-past : (B M : ℕ) (bit : ℕ → Bool) (n : ℕ) → 8 * (B + M) ≤ n → cell (row_of B M bit) n ≡ false
unfolding row_of
row_of-past B M bit n h = cell_past (row_of B M bit) n (bytes_size bit 0 B) (bytes_size bit B M) h

few_bits : (v : ℕ) → v ≤ 7 → number_of (bit_in v 0) (bit_in v 1) (bit_in v 2) ≡ v
few_bits zero h = refl
few_bits (suc zero) h = refl
few_bits (suc (suc zero)) h = refl
few_bits (suc (suc (suc zero))) h = refl
few_bits (suc (suc (suc (suc zero)))) h = refl
few_bits (suc (suc (suc (suc (suc zero))))) h = refl
few_bits (suc (suc (suc (suc (suc (suc zero)))))) h = refl
few_bits (suc (suc (suc (suc (suc (suc (suc zero))))))) h = refl
few_bits (suc (suc (suc (suc (suc (suc (suc (suc v)))))))) h = absurd (omega (arith, h))

pub digits_of-digit : (B M : ℕ) (number : ℕ → ℕ) (n : ℕ) → n < 8 * (B + M) → number n ≤ 7 → digit (digits_of B M number) n ≡ number n
unfolding digits_of
digits_of-digit B M number n h few =
    digit-is (digits_of B M number) n
    ∙ rw (row_of-cell B M (λ k. bit_in (number k) 0) n h, row_of-cell B M (λ k. bit_in (number k) 1) n h, row_of-cell B M (λ k. bit_in (number k) 2) n h)
    (few_bits (number n) few)

digits_of-past : (B M : ℕ) (number : ℕ → ℕ) (n : ℕ) → 8 * (B + M) ≤ n → digit (digits_of B M number) n ≡ 0
unfolding digits_of
digits_of-past B M number n h =
    digit-is (digits_of B M number) n
    ∙ rw (row_of-past B M (λ k. bit_in (number k) 0) n h, row_of-past B M (λ k. bit_in (number k) 1) n h, row_of-past B M (λ k. bit_in (number k) 2) n h)
    refl

-- it is drawn
pub drawn_is : (B M : ℕ) (wear : Wear) (line : ℕ) → IsDrawn wear line (drawn_line B M wear line)
unfolding drawn_line
drawn_is B M wear line = record {
  line = refl;
  cells = λ n h.
      rw (
        cell-zeros B M n,
        digit-zeros B M n,
        get_or-map-range_with_len (λ k. endurance wear (word_of wear line k)) 0 (8 * (B + M)) n n 0 h (omega arith),
        digits_of-digit B M (λ k. miss_limit wear (word_of wear line k)) n h (omega arith),
        row_of-cell B M (λ k. stuck_value (word_of wear line k)) n h,
      )
      refl;
}

fresh_left : {B M : ℕ} (counts : Counts B M) (f : ℕ → ℕ) (n : ℕ) → n < 8 * (B + M) → count counts n ≡ f n
    → slice_index (left_of (zero_digits B M) counts) n ≡ f n
fresh_left {B} {M} counts f n h is = left_is (zero_digits B M) counts n h ∙ omega (arith, digit-zeros B M n) ∙ is

-- and so is a line whose cells have the lives of its words
pub drawn_alike : {B M : ℕ} (wear : Wear) (line : ℕ) (counts : Counts B M) (limits : Digits B M) (ends : Cells B M)
    → ((n : ℕ) → n < 8 * (B + M) → count counts n ≡ endurance wear (word_of wear line n))
    → ((n : ℕ) → n < 8 * (B + M) → digit limits n ≡ miss_limit wear (word_of wear line n)) → ((n : ℕ) → 8 * (B + M) ≤ n → digit limits n ≡ 0)
    → ((n : ℕ) → n < 8 * (B + M) → cell ends n ≡ stuck_value (word_of wear line n)) → ((n : ℕ) → 8 * (B + M) ≤ n → cell ends n ≡ false)
    → HaveSameLife (drawn_line B M wear line) (record { line = blank_planes B M; left = left_of (zero_digits B M) counts; limits = limits; ends = ends })
unfolding drawn_line
drawn_alike {B} {M} wear line counts limits ends left limit no_limit value no_value =
    let new : LifeLine B M = record { line = blank_planes B M; left = left_of (zero_digits B M) counts; limits = limits; ends = ends } in
    let size : length (drawn_line B M wear line).left ≡ 8 * (B + M) = length-map-range_with_len (λ k. endurance wear (word_of wear line k)) 0 (8 * (B + M)) in
    record {
      line = refl;
      cells = λ n.
          elim (cases_lt n (8 * (B + M))) as (λ _. seeded_cell (drawn_line B M wear line) n ≡ seeded_cell new n) [
            | inl low ↦
                rw (
                  fresh_left counts (λ k. endurance wear (word_of wear line k)) n low (left n low),
                  limit n low,
                  value n low,
                  get_or-map-range_with_len (λ k. endurance wear (word_of wear line k)) 0 (8 * (B + M)) n n 0 low (omega arith),
                  digits_of-digit B M (λ k. miss_limit wear (word_of wear line k)) n low (omega arith),
                  row_of-cell B M (λ k. stuck_value (word_of wear line k)) n low,
                )
                refl
            | inr high ↦
                rw (
                  no_limit n high,
                  no_value n high,
                  get_or_past (left_of (zero_digits B M) counts) n 0 (omega (arith, high, left_size (zero_digits B M) counts)),
                  get_or_past (drawn_line B M wear line).left n 0 (omega (arith, high, size)),
                  digits_of-past B M (λ k. miss_limit wear (word_of wear line k)) n high,
                  row_of-past B M (λ k. stuck_value (word_of wear line k)) n high,
                )
                refl
          ];
    }
