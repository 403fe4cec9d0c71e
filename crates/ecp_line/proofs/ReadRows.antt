-- Rows that are made of the data bytes of one value and the check bytes of another.
use Rattle.std.proofs.Common.{◌≡◌, ℕ, ◌+◌, ◌*◌, ◌/◌, ◌%◌, ◌<◌, ◌≤◌, Bool, true, false, List, Option, Some, None, replicate, eqb, sym, ap, ◌∙◌, inl, inr, arith}
use Rattle.std.{specs.Int.bit_at, specs.Prelude.IfSome, proofs.lemmas.Bool.{cases_lt, both_ways}, proofs.lemmas.List.{get_or-replicate, length-replicate}}
use Rattle.std.proofs.lemmas.Nat.Bits.{bit_at_ones}
use Rattle.cell_rows.{specs.Rows.{bit_of, cell, xor}, proofs.RowLemmas.{cell-bits, cell-meta, cell-zeros}}
use Rattle.ecp_line.{specs.Layout.{IsLowest, IsWanted}, proofs.Correcting.wanted-none}

-- the mask of all data cells
pub data-mask : (B M n : ℕ) → n < 8 * B → cell {B = B} {M = M} (record { bits = replicate B 255; meta = replicate M 0 }) n ≡ true
data-mask B M n low =
    cell-bits {B = B} {M = M} (record { bits = replicate B 255; meta = replicate M 0 }) n (length-replicate B 255) low
    ∙ ap (λ x. eqb (bit_at x (n % 8)) 1) (get_or-replicate B (n / 8) 255 0 (omega arith))
    ∙ ap (λ x. eqb x 1) (bit_at_ones 8 (n % 8) (omega arith))

pub check-mask : (B M n : ℕ) → 8 * B ≤ n → cell {B = B} {M = M} (record { bits = replicate B 255; meta = replicate M 0 }) n ≡ false
check-mask B M n high =
    cell-meta {B = B} {M = M} (record { bits = replicate B 255; meta = replicate M 0 }) n (length-replicate B 255) high
    ∙ sym (cell-meta {B = B} {M = M} (record { bits = replicate B 0; meta = replicate M 0 }) n (length-replicate B 0) high)
    ∙ cell-zeros B M n

-- before any entry, the data cells are wanted at the bytes
pub wanted-start : (B M : ℕ) (f want : ℕ → Bool) (bytes : List ℕ) → ((n : ℕ) → n < 8 * B → want n ≡ bit_of bytes n) → ((n : ℕ) → 8 * B ≤ n → want n ≡ f n)
    → IsWanted B 0 f bytes want (cell {B = B} {M = M} (record { bits = replicate B 255; meta = replicate M 0 }))
wanted-start B M f want bytes front behind =
    wanted-none B f bytes want _ (λ n low. (data-mask B M n low, front n low)) (λ n high. (check-mask B M n high, behind n high))

xor-self : (b : Bool) → xor b b ≡ false
xor-self b = grind arith

-- the lowest cell in which two rows with the same check cells differ is a data cell
pub lowest-wrong : (B M : ℕ) (read given diff bit : ℕ → Bool) (bytes : List ℕ) (n : ℕ) → ((n : ℕ) → n < 8 * B → given n ≡ bit_of bytes n) → ((n : ℕ) → 8 * B ≤ n → given n ≡ read n)
    → ((n : ℕ) → diff n ≡ xor (read n) (given n)) → ((x : ℕ) → x < 8 * B → read x ≡ bit x)
    → (n < 8 * (B + M)) × IsLowest diff n → (n < 8 * B) × IsLowest (λ y. xor (bit y) (bit_of bytes y)) n
lowest-wrong B M read given diff bit bytes n front behind differ same (room, low) =
    elim (cases_lt n (8 * B)) as (λ _. (n < 8 * B) × IsLowest (λ y. xor (bit y) (bit_of bytes y)) n) [
      | inl first ↦ (first, record { is = at n first ∙ low.is; below = λ k l. at k (omega arith) ∙ low.below k l })
      | inr high ↦ absurd (both_ways (diff n) (differ n ∙ ap (xor (read n)) (behind n high) ∙ xor-self (read n)) low.is)
    ]
  where
    at : (k : ℕ) → k < 8 * B → xor (bit k) (bit_of bytes k) ≡ diff k
    at k l = ap (λ (b : Bool). xor b (bit_of bytes k)) (sym (same k l)) ∙ ap (xor (read k)) (sym (front k l)) ∙ sym (differ k)

-- what holds of a value that is there
pub IfSome-map : (o : Option ℕ) (P Q : ℕ → Type 0) → ((x : ℕ) → P x → Q x) → IfSome o P → IfSome o Q
IfSome-map None P Q f h = h
IfSome-map (Some x) P Q f h = f x h
