-- Blocks of 64 cells as the bits of a number.
use Rattle.std.proofs.Common.{◌≡◌, ℕ, zero, suc, ◌+◌, ◌-◌, ◌*◌, ◌/◌, ◌%◌, ◌^◌, ◌<◌, ◌≤◌, Bool, true, false, cond, eqb, List, [], ◌∷◌, length, get_or, sym, ◌∙◌, ap, inl, inr, arith, add-zero, add-one, subst, w8, Fits}
use Rattle.std.{specs.Int.RustNames.count_ones, specs.Simd.Lanes.{Each1, chunk, number_l}, proofs.lemmas.Bool.cases_lt, proofs.lemmas.List.get_or_past}
use Rattle.std.proofs.{lemmas.Nat.{shr_split, shr_below, ones-le}, lemmas.Nat.Bits.{bit_at-zero, bit_at-suc, bit_at_lowest, bit_at_cat_low, bit_at_cat_high}}
use Rattle.std.proofs.lemmas.Simd.{chunk-fits, get_or-chunk, length-chunk, Each1-get_or}
use Rattle.cell_rows.{specs.Rows.{bit_in, bit_of, members}, proofs.ByteLemmas.bit_of_byte, proofs.RowLemmas.members-suc}
use lib.Count.{ones_step}

-- a byte, moved up
pub shifted_low : (byte k i : ℕ) → i < k → bit_in (byte * 2 ^ k) i ≡ false
shifted_low byte k i low =
    let e : byte * 2 ^ k ≡ byte * 2 ^ k + 0 = omega arith in
    ap (λ x. bit_in x i) e ∙ ap (λ x. eqb x 1) (bit_at_cat_low byte k 0 i low ∙ bit_at-zero i)

pub shifted_high : (byte k i : ℕ) → k ≤ i → 0 < 2 ^ k → bit_in (byte * 2 ^ k) i ≡ bit_in byte (i - k)
shifted_high byte k i high some =
    let e : byte * 2 ^ k ≡ byte * 2 ^ k + 0 = omega arith in
    ap (λ x. bit_in x i) e ∙ ap (λ x. eqb x 1) (bit_at_cat_high byte k 0 i some high)

pub or_none : (b : Bool) → cond b true false ≡ b
or_none b = grind arith

-- bit by bit, a number spelt by bytes is those bytes
number_bit : (bytes : List ℕ) → ((k : ℕ) → get_or bytes k 0 < 2 ^ 8) → (j i : ℕ) → i < 8 → bit_in (number_l 256 bytes) (8 * j + i) ≡ bit_in (get_or bytes j 0) i
number_bit [] small j i low = ap (λ b. eqb b 1) (bit_at-zero (8 * j + i) ∙ sym (bit_at-zero i))
number_bit (byte ∷ bytes) small zero i low =
    let sum : byte + 256 * number_l 256 bytes ≡ number_l 256 bytes * 2 ^ 8 + byte = omega arith in
    let number : 8 * 0 + i ≡ i = omega arith in
    ap (bit_in (byte + 256 * number_l 256 bytes)) number ∙ ap (λ n. bit_in n i) sum ∙ ap (λ b. eqb b 1) (bit_at_cat_low (number_l 256 bytes) 8 byte i low)
number_bit (byte ∷ bytes) small (suc j) i low =
    let sum : byte + 256 * number_l 256 bytes ≡ number_l 256 bytes * 2 ^ 8 + byte = omega arith in
    let number : 8 * suc j + i - 8 ≡ 8 * j + i = omega arith in
    ap (λ n. bit_in n (8 * suc j + i)) sum
    ∙ ap (λ b. eqb b 1) (bit_at_cat_high (number_l 256 bytes) 8 byte (8 * suc j + i) (small 0) (omega arith))
    ∙ ap (bit_in (number_l 256 bytes)) number ∙ number_bit bytes (λ k. small (suc k)) j i low

low_word : (n i : ℕ) → i < 64 → bit_in (n % 2 ^ 64) i ≡ bit_in n i
low_word n i low = ap (λ b. eqb b 1) (sym (bit_at_cat_low (n / 2 ^ 64) 64 (n % 2 ^ 64) i low)) ∙ ap (λ x. bit_in x i) (shr_split n 64)

-- the number that eight bytes of a list spell, the first of them lowest
pub word_read : (bytes : List ℕ) (block i : ℕ) → 8 * block + 8 ≤ length bytes → ((k : ℕ) → Fits w8 (get_or bytes k 0)) → i < 64
    → bit_in (number_l 256 (chunk (8 * block) 8 bytes) % 2 ^ 64) i ≡ bit_of bytes (64 * block + i)
word_read bytes block i room fits low =
    let word = chunk (8 * block) 8 bytes in
    let j : ℕ = i / 8 in
    let k : ℕ = i % 8 in
    let back : 8 * j + k ≡ i = omega arith in
    let number : 8 * (8 * block + j) + k ≡ 64 * block + i = omega arith in
    let small : Each1 (Fits w8) word = chunk-fits w8 (8 * block) 8 bytes fits in
    low_word (number_l 256 word) i low
    ∙ ap (bit_in (number_l 256 word)) (sym back)
    ∙ number_bit word
    (λ q.
    elim (cases_lt q 8) as (λ _. get_or word q 0 < 2 ^ 8) [
      | inl within ↦ (Each1-get_or (Fits w8) word q 0 (omega (arith, length-chunk (8 * block) 8 bytes room)) small).fits
      | inr past ↦ omega (arith, get_or_past word q 0 (omega (arith, length-chunk (8 * block) 8 bytes room)))
    ])
    j k (omega arith)
    ∙ ap (λ b. bit_in b k) (get_or-chunk (8 * block) 8 bytes j 0 (omega arith))
    ∙ sym (bit_of_byte bytes (8 * block + j) k (omega arith))
    ∙ ap (bit_of bytes) number

one_digit : (n : ℕ) → n < 2 → cond (eqb n 1) 1 0 ≡ n
one_digit n small = grind arith

-- as many bits of a number are 1 as the numbers with the property that they tell
pub count_bits : (has : ℕ → Bool) (k n word : ℕ) → word < 2 ^ k → ((i : ℕ) → i < k → bit_in word i ≡ has (n + i))
    → members has (n + k) ≡ members has n + count_ones word
count_bits has zero n word small bits = omega (arith, ap (members has) (add-zero n), ones-le 0 word small)
count_bits has (suc k) n word small bits =
    let next : n + suc k ≡ n + 1 + k = omega arith in
    let half : word / 2 < 2 ^ k = shr_below word k 1 (subst (λ e. word < 2 ^ e) (sym (add-one k)) small) in
    let rest : members has (n + 1 + k) ≡ members has (n + 1) + count_ones (word / 2) =
    count_bits has k (n + 1) (word / 2) half
    (λ i low.
    let index : n + suc i ≡ n + 1 + i = omega arith in
    ap (λ b. eqb b 1) (sym (bit_at-suc word i)) ∙ bits (suc i) (omega arith) ∙ ap has index) in
    let first : cond (has n) 1 0 ≡ word % 2 =
    ap (λ b. cond b 1 0) (ap has (sym (add-zero n)) ∙ sym (bits 0 (omega arith)) ∙ ap (λ b. eqb b 1) (bit_at_lowest word)) ∙ one_digit (word % 2) (omega arith) in
    omega (arith, ap (members has) next, rest, members-suc has n, first, ones_step word)
