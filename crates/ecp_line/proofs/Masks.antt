-- The lowest cell of a mask.
use Rattle.std.proofs.Common.{◌≡◌, ◌≢◌, ℕ, ◌+◌, ◌-◌, ◌*◌, ◌/◌, ◌%◌, ◌<◌, false, List, length, get_or, eqb, ap, ◌∙◌, inl, inr, arith, w8}
use Rattle.std.{specs.Int.{bit_at, trailing_zeros}, proofs.lemmas.Bool.cases_lt, proofs.lemmas.Nat.Bits.{bit_at-trailing_zeros, bit_at-zero}}
use Rattle.cell_rows.{specs.Rows.{bit_of, cell}, specs.declared.row.Cells.Cells, proofs.RowLemmas.{cell-bits, cell-meta}}
use Rattle.ecp_line.specs.Layout.{IsLowest}

-- a bit that is 0 in its byte
bit-zero : (bytes : List ℕ) (n byte : ℕ) → get_or bytes (n / 8) 0 ≡ byte → bit_at byte (n % 8) ≡ 0 → bit_of bytes n ≡ false
bit-zero bytes n byte e h = ap (λ x. eqb (bit_at x (n % 8)) 1) e ∙ ap (λ x. eqb x 1) h

-- the lowest 1 of the first byte that is not 0
pub lowest-byte : (bytes : List ℕ) (index byte : ℕ) → get_or bytes index 0 ≡ byte → byte ≢ 0 → byte < 256 → ((k : ℕ) → k < index → get_or bytes k 0 ≡ 0)
    → index < length bytes → (8 * index + trailing_zeros w8 byte < 8 * length bytes) × IsLowest (bit_of bytes) (8 * index + trailing_zeros w8 byte)
lowest-byte bytes index byte at some small before within =
    let (low, one, zeros) = bit_at-trailing_zeros w8 byte (omega arith) small in
    let t : ℕ = trailing_zeros w8 byte in
    let quotient : (8 * index + t) / 8 ≡ index = omega arith in
    let rest : (8 * index + t) % 8 ≡ t = omega arith in (
      omega arith,
      record {
        is = ap (λ i. eqb (bit_at (get_or bytes i 0) ((8 * index + t) % 8)) 1) quotient ∙ ap (λ i. eqb (bit_at (get_or bytes index 0) i) 1) rest
            ∙ ap (λ x. eqb (bit_at x t) 1) at ∙ ap (λ x. eqb x 1) one;
        below = λ k l. elim (cases_lt (k / 8) index) as (λ _. bit_of bytes k ≡ false) [
          | inl earlier ↦ bit-zero bytes k 0 (before (k / 8) earlier) (bit_at-zero (k % 8))
          | inr le ↦ let same : k / 8 ≡ index = omega arith in bit-zero bytes k byte (ap (λ i. get_or bytes i 0) same ∙ at) (zeros (k % 8) (omega arith))
        ];
      },
    )

-- the data bytes come first
pub lowest-bits : {B M : ℕ} (row : Cells B M) (n : ℕ) → length row.bits ≡ B → n < 8 * B → IsLowest (bit_of row.bits) n → IsLowest (cell row) n
lowest-bits row n len within low = record {
  is = cell-bits row n len within ∙ low.is;
  below = λ k l. cell-bits row k len (omega arith) ∙ low.below k l;
}

pub lowest-meta : {B M : ℕ} (row : Cells B M) (n : ℕ) → length row.bits ≡ B → ((k : ℕ) → bit_of row.bits k ≡ false) → IsLowest (bit_of row.meta) n → IsLowest (cell row) (8 * B + n)
lowest-meta {B} {M} row n len none low = record {
  is = cell-meta row (8 * B + n) len (omega arith) ∙ (let e : 8 * B + n - 8 * B ≡ n = omega arith in ap (bit_of row.meta) e) ∙ low.is;
  below = λ k l. elim (cases_lt k (8 * B)) as (λ _. cell row k ≡ false) [
    | inl first ↦ cell-bits row k len first ∙ none k
    | inr le ↦ cell-meta row k len le ∙ low.below (k - 8 * B) (omega arith)
  ];
}

pub lowest-none : {B M : ℕ} (row : Cells B M) → length row.bits ≡ B → ((k : ℕ) → bit_of row.bits k ≡ false) → ((k : ℕ) → bit_of row.meta k ≡ false) → (n : ℕ) → cell row n ≡ false
lowest-none {B} row len bits meta n =
    elim (cases_lt n (8 * B)) as (λ _. cell row n ≡ false) [
      | inl first ↦ cell-bits row n len first ∙ bits n
      | inr le ↦ cell-meta row n len le ∙ meta (n - 8 * B)
    ]
