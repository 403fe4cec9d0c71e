-- The eight bytes of a number, written at once.
use Rattle.std.proofs.Common.{◌≡◌, ◌≢◌, ℕ, zero, suc, ◌+◌, ◌*◌, ◌/◌, ◌%◌, ◌<◌, ◌≤◌, eqb, List, [], ◌∷◌, length, get_or, sym, ◌∙◌, ap, inl, inr, arith, add-zero}
use Rattle.std.{specs.Simd.Lanes.put_chunk, proofs.lemmas.Bool.cases_lt, proofs.lemmas.Nat.{shr-shr, shr_split}, proofs.lemmas.Nat.Bits.bit_at_cat_low}
use Rattle.std.proofs.lemmas.Simd.{get_or-put_chunk_below, get_or-put_chunk_at, get_or-put_chunk_above}
use Rattle.cell_rows.specs.Rows.{bit_of, bit_in}

-- the number without its lowest bytes
abbrev ups : ℕ → ℕ → ℕ
ups zero x = x
ups (suc j) x = ups j x / 256

-- its bytes, the lowest first, as the lanes of a vector have them
abbrev word_bytes : ℕ → List ℕ
word_bytes bits =
    (bits + 0) % 256 ∷ (bits + 0) / 256 % 256 ∷ (bits + 0) / 256 / 256 % 256 ∷ (bits + 0) / 256 / 256 / 256 % 256
    ∷ (bits + 0) / 256 / 256 / 256 / 256 % 256 ∷ (bits + 0) / 256 / 256 / 256 / 256 / 256 % 256
    ∷ (bits + 0) / 256 / 256 / 256 / 256 / 256 / 256 % 256 ∷ (bits + 0) / 256 / 256 / 256 / 256 / 256 / 256 / 256 % 256 ∷ []

low_byte : (x k : ℕ) → k < 8 → bit_in (x % 256) k ≡ bit_in x k
low_byte x k low = ap (λ b. eqb b 1) (sym (bit_at_cat_low (x / 256) 8 (x % 256) k low)) ∙ ap (λ y. bit_in y k) (shr_split x 8)

up_byte : (x k : ℕ) → bit_in (x / 256) k ≡ bit_in x (8 + k)
up_byte x k = ap (λ y. eqb (y % 2) 1) (shr-shr x 8 k)

ups_bit : (j x k : ℕ) → bit_in (ups j x) k ≡ bit_in x (8 * j + k)
ups_bit zero x k = let number : k ≡ 8 * 0 + k = omega arith in ap (bit_in x) number
ups_bit (suc j) x k =
    let number : 8 * j + (8 + k) ≡ 8 * suc j + k = omega arith in
    up_byte (ups j x) k ∙ ups_bit j x (8 + k) ∙ ap (bit_in x) number

byte_bit : (bits j k : ℕ) → k < 8 → bit_in (ups j (bits + 0) % 256) k ≡ bit_in bits (8 * j + k)
byte_bit bits j k low = low_byte (ups j (bits + 0)) k low ∙ ups_bit j (bits + 0) k ∙ ap (λ x. bit_in x (8 * j + k)) (add-zero bits)

word_byte : (bits j k : ℕ) → j < 8 → k < 8 → bit_in (get_or (word_bytes bits) j 0) k ≡ bit_in bits (8 * j + k)
word_byte bits zero k few low = byte_bit bits 0 k low
word_byte bits (suc zero) k few low = byte_bit bits 1 k low
word_byte bits (suc (suc zero)) k few low = byte_bit bits 2 k low
word_byte bits (suc (suc (suc zero))) k few low = byte_bit bits 3 k low
word_byte bits (suc (suc (suc (suc zero)))) k few low = byte_bit bits 4 k low
word_byte bits (suc (suc (suc (suc (suc zero))))) k few low = byte_bit bits 5 k low
word_byte bits (suc (suc (suc (suc (suc (suc zero)))))) k few low = byte_bit bits 6 k low
word_byte bits (suc (suc (suc (suc (suc (suc (suc zero))))))) k few low = byte_bit bits 7 k low
word_byte bits (suc (suc (suc (suc (suc (suc (suc (suc j)))))))) k few low = absurd (omega arith)

-- where the bytes of a number are written, its bits are
pub word_written : (bytes : List ℕ) (block bits i : ℕ) → 8 * block + 8 ≤ length bytes → i < 64
    → bit_of (put_chunk (8 * block) bytes (word_bytes bits)) (64 * block + i) ≡ bit_in bits i
word_written bytes block bits i within low =
    let new = put_chunk (8 * block) bytes (word_bytes bits) in
    let j : ℕ = i / 8 in
    let few : j < 8 = omega arith in
    let index : (64 * block + i) / 8 ≡ 8 * block + j = omega arith in
    let digit : (64 * block + i) % 8 ≡ i % 8 = omega arith in
    let back : 8 * j + i % 8 ≡ i = omega arith in
    ap (λ q. bit_in (get_or new q 0) ((64 * block + i) % 8)) index
    ∙ ap (λ b. bit_in b ((64 * block + i) % 8)) (get_or-put_chunk_at (8 * block) bytes (word_bytes bits) j 0 few within)
    ∙ ap (bit_in (get_or (word_bytes bits) j 0)) digit ∙ word_byte bits j (i % 8) few (omega arith) ∙ ap (bit_in bits) back

-- and the others stay
pub word_kept : (bytes : List ℕ) (block bits n : ℕ) → n / 64 ≢ block → bit_of (put_chunk (8 * block) bytes (word_bytes bits)) n ≡ bit_of bytes n
word_kept bytes block bits n apart =
    ap (λ b. bit_in b (n % 8))
    (elim (cases_lt (n / 8) (8 * block)) as (λ _. get_or (put_chunk (8 * block) bytes (word_bytes bits)) (n / 8) 0 ≡ get_or bytes (n / 8) 0) [
      | inl below ↦ get_or-put_chunk_below (8 * block) bytes (word_bytes bits) (n / 8) 0 below
      | inr from ↦
          let past : 8 * block + 8 ≤ n / 8 = omega (arith, apart, from) in
          get_or-put_chunk_above (8 * block) bytes (word_bytes bits) (n / 8) 0 past
    ])
