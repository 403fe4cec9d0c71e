-- Bytes by their bits.
use Rattle.std.proofs.Common.{◌≡◌, ℕ, zero, suc, ◌+◌, ◌*◌, ◌/◌, ◌%◌, ◌<◌, Bool, List, length, get_or, eqb, refl, sym, ap, ◌∙◌, arith, ext_get_or}
use Rattle.std.{specs.Int.bit_at, proofs.Math.Nat.mod-eq_of_lt}
use Rattle.cell_rows.specs.{Rows.{bit_of, cell}, declared.row.Cells.Cells}
use Rattle.ecp_line.{specs.Layout.{number, decoded}, specs.Reading.{bytes_from, decode}, proofs.Wanting.digits-from}

pub length-bytes_from : (bit : ℕ → Bool) (k n : ℕ) → length (bytes_from bit k n) ≡ n
length-bytes_from bit k zero = refl
length-bytes_from bit k (suc n) = let t = length-bytes_from bit (k + 1) n in omega arith

-- a line is read as n bytes
pub length-decode : {n m : ℕ} (e : ℕ) (row : Cells n m) → length (decode e row) ≡ n
unfolding decode
length-decode {n} e row = length-bytes_from _ 0 n

pub get_or-bytes_from : (bit : ℕ → Bool) (k n i : ℕ) → i < n → get_or (bytes_from bit k n) i 0 ≡ number bit (8 * (k + i)) 8
get_or-bytes_from bit k zero i h = absurd (omega arith)
get_or-bytes_from bit k (suc n) zero h = let e : 8 * k ≡ 8 * (k + 0) = omega arith in ap (λ (a : ℕ). number bit a 8) e
get_or-bytes_from bit k (suc n) (suc i) h =
    let e : 8 * (k + 1 + i) ≡ 8 * (k + suc i) = omega arith in
    get_or-bytes_from bit (k + 1) n i (omega arith) ∙ ap (λ (a : ℕ). number bit a 8) e

-- a byte is the number of its bits
byte-bits : (xs : List ℕ) (bit : ℕ → Bool) (k : ℕ) → k < length xs → get_or xs k 0 < 256 → ((x : ℕ) → x < 8 * length xs → bit_of xs x ≡ bit x) → number bit (8 * k) 8 ≡ get_or xs k 0
byte-bits xs bit k within small same =
    digits-from bit (8 * k) (get_or xs k 0) 8 (λ i l.
    let q : (8 * k + i) / 8 ≡ k = omega arith in
    let r : (8 * k + i) % 8 ≡ i = omega arith in
    sym (same (8 * k + i) (omega arith)) ∙ ap (λ (a : ℕ). eqb (bit_at (get_or xs a 0) ((8 * k + i) % 8)) 1) q ∙ ap (λ (a : ℕ). eqb (bit_at (get_or xs k 0) a) 1) r)
    ∙ mod-eq_of_lt small

-- bytes with these bits are the bytes of these bits
pub bytes-from : (xs : List ℕ) (bit : ℕ → Bool) (n : ℕ) → length xs ≡ n → ((k : ℕ) → get_or xs k 0 < 256) → ((x : ℕ) → x < 8 * n → bit_of xs x ≡ bit x) → xs ≡ bytes_from bit 0 n
bytes-from xs bit n len small same =
    ext_get_or 0 xs (bytes_from bit 0 n) (len ∙ sym (length-bytes_from bit 0 n))
    (λ i l. let e : 8 * (0 + i) ≡ 8 * i = omega arith in
    sym (get_or-bytes_from bit 0 n i (omega arith) ∙ ap (λ (a : ℕ). number bit a 8) e ∙ byte-bits xs bit i l (small i) (λ x h. same x (omega arith))))

-- so the bytes that have the bits that a line is read as are what it is read as
pub decode-is : {B M : ℕ} (E : ℕ) (row : Cells B M) (xs : List ℕ) → length xs ≡ B → ((k : ℕ) → get_or xs k 0 < 256) → ((x : ℕ) → x < 8 * B → bit_of xs x ≡ decoded B E (cell row) x) → xs ≡ decode E row
unfolding decode
decode-is {B} E row xs len small same = bytes-from xs (decoded B E (cell row)) B len small same
