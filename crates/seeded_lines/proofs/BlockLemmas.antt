-- Blocks of 64 cells as the bits of a number.
use Rattle.std.proofs.Common.{◌≡◌, ℕ, ◌+◌, ◌-◌, ◌*◌, ◌/◌, ◌%◌, ◌^◌, ◌<◌, ◌≤◌, ◌&&◌, Bool, true, false, not, eqb, refl, sym, ◌∙◌, ap, inl, inr, arith, true≢false, bit_and, zero, suc, w64}
use Rattle.std.{specs.Int.{bit_at, bit_not}, proofs.lemmas.Bool.{cases_eq, cases_lt}, proofs.lemmas.Nat.{shr-shr, shr_split, and_le_l, and_mask}}
use Rattle.std.proofs.lemmas.Nat.Bits.{bit_at-zero, bit_at_cat_low, bit_at_cat_high, bit_at_clear_same}
use Rattle.seeded_lines.specs.Planes.{bit_in}
use Rattle.cell_rows.proofs.ByteLemmas.{digit_and, swapped}

-- the number of 2 * k bits whose bits of even number are 1
even_ones : ℕ → ℕ
even_ones zero = 0
even_ones (suc k) = even_ones k * 2 ^ 2 + 1

one_even : (i : ℕ) → i < 2 → bit_in 1 i ≡ not (eqb (i % 2) 1)
one_even zero h = refl
one_even (suc zero) h = refl
one_even (suc (suc i)) h = absurd (omega arith)

even_bits : (k i : ℕ) → i < 2 * k → bit_in (even_ones k) i ≡ not (eqb (i % 2) 1)
unfolding even_ones
even_bits zero i h = absurd (omega arith)
even_bits (suc k) i h =
    elim (cases_lt i 2) as (λ _. bit_in (even_ones k * 2 ^ 2 + 1) i ≡ not (eqb (i % 2) 1)) [
      | inl low ↦ ap (λ x. eqb x 1) (bit_at_cat_low (even_ones k) 2 1 i low) ∙ one_even i low
      | inr high ↦
          let parity : (i - 2) % 2 ≡ i % 2 = omega arith in
          ap (λ x. eqb x 1) (bit_at_cat_high (even_ones k) 2 1 i (omega arith) high)
          ∙ even_bits k (i - 2) (omega arith) ∙ ap (λ p. not (eqb p 1)) parity
    ]

pub digit_even : (bits i : ℕ) → i < 64 → bit_in (bit_and bits 6148914691236517205) i ≡ not (eqb (i % 2) 1) && bit_in bits i
unfolding even_ones
digit_even bits i h =
    digit_and bits 6148914691236517205 i ∙ ap (λ b. bit_in bits i && b) (even_bits 32 i (omega arith)) ∙ swapped (bit_in bits i) (not (eqb (i % 2) 1))

pub even_only : (i : ℕ) → i < 64 → bit_in 6148914691236517205 i ≡ not (eqb (i % 2) 1)
unfolding even_ones
even_only i h = even_bits 32 i (omega arith)

-- a byte of a number has its bits
pub byte_of : (bits index i : ℕ) → i < 8 → bit_in (bit_and (bits / 2 ^ (8 * index)) 255) i ≡ bit_in bits (8 * index + i)
byte_of bits index i low =
    let up : ℕ = bits / 2 ^ (8 * index) in
    ap (λ x. bit_in x i) (and_mask up 8)
    ∙ ap (λ x. eqb x 1)
    (sym (bit_at_cat_low (up / 2 ^ 8) 8 (up % 2 ^ 8) i low) ∙ ap (λ x. bit_at x i) (shr_split up 8)
    ∙ ap (λ x. x % 2) (shr-shr bits (8 * index) i))

-- without a bit that it has, a number is less
pub clear_less : (bits index : ℕ) → index < 64 → bit_in bits index ≡ true → bit_and bits (bit_not w64 (1 * 2 ^ index % 2 ^ 64)) < bits
clear_less bits index fits has =
    let new : ℕ = bit_and bits (bit_not w64 (1 * 2 ^ index % 2 ^ 64)) in
    let most : new ≤ bits = and_le_l bits (bit_not w64 (1 * 2 ^ index % 2 ^ 64)) in
    elim (cases_eq new bits) as (λ _. new < bits) [
      | inl same ↦
          let gone : bit_in new index ≡ false = ap (λ x. eqb x 1) (bit_at_clear_same w64 bits index fits) in
          absurd (true≢false (sym has ∙ ap (λ x. bit_in x index) (sym same) ∙ gone))
      | inr apart ↦ omega arith
    ]

-- a block whose number is 0 has no cell
pub block_clear : (mask : ℕ → Bool) (block bits : ℕ) → bits ≡ 0 → ((i : ℕ) → i < 64 → bit_in bits i ≡ mask (64 * block + i))
    → (n : ℕ) → 64 * block ≤ n → n < 64 * block + 64 → mask n ≡ false
block_clear mask block bits none is n from to =
    let number : 64 * block + (n - 64 * block) ≡ n = omega arith in
    ap mask (sym number) ∙ sym (is (n - 64 * block) (omega arith)) ∙ ap (λ x. bit_in x (n - 64 * block)) none
    ∙ ap (λ x. eqb x 1) (bit_at-zero (n - 64 * block))
