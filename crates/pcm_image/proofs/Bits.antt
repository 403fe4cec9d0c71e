-- The bits of given bytes: those that are read are those that are written.
use Rattle.std.proofs.Common.{◌≡◌, ℕ, zero, suc, ◌+◌, ◌*◌, ◌/◌, ◌%◌, ◌<◌, ◌≤◌, Bool, true, false, cond, eqb, List, length, get_or, refl, sym, ap, ◌∙◌, arith, ext_get_or}
use Rattle.std.specs.{Int.bit_at, Prelude.slice_index_or}
use Rattle.cell_rows.specs.Rows.{bit_of}
use Rattle.ecp_line.{specs.Layout.number, specs.Reading.bytes_from, proofs.Bytes.{bytes-from, get_or-bytes_from}}
use Rattle.pcm_image.specs.{Reading.given_from, Spelling.packed}

digit : (v : ℕ) (b : Bool) → v ≡ cond b 1 0 → eqb v 1 ≡ b
digit v true e = rw e refl
digit v false e = rw e refl

scaled : (b : Bool) (w : ℕ) → (cond b w 0 ≡ w * cond b 1 0) × (cond b 1 0 ≤ 1)
scaled true w = (omega arith, omega arith)
scaled false w = (omega arith, omega arith)

-- a byte of eight bits has these bits
eight : (a b c d e f g h : Bool) (x : ℕ)
    → x ≡ 0 + cond a 1 0 + cond b 2 0 + cond c 4 0 + cond d 8 0 + cond e 16 0 + cond f 32 0 + cond g 64 0 + cond h 128 0
    → (bit_at x 0 ≡ cond a 1 0) × (bit_at x 1 ≡ cond b 1 0) × (bit_at x 2 ≡ cond c 1 0) × (bit_at x 3 ≡ cond d 1 0)
    × (bit_at x 4 ≡ cond e 1 0) × (bit_at x 5 ≡ cond f 1 0) × (bit_at x 6 ≡ cond g 1 0) × (bit_at x 7 ≡ cond h 1 0)
eight a b c d e f g h x is =
    let p = scaled a 1 in let q = scaled b 2 in let r = scaled c 4 in let s = scaled d 8 in
    let t = scaled e 16 in let u = scaled f 32 in let v = scaled g 64 in let w = scaled h 128 in
    (omega arith, omega arith, omega arith, omega arith, omega arith, omega arith, omega arith, omega arith)

octet : (f : ℕ → Bool) (from r : ℕ) → r < 8 → eqb (bit_at (number f from 8) r) 1 ≡ f (from + r)
unfolding number
octet f from r h =
    let k = eight (f (from + 0)) (f (from + 1)) (f (from + 2)) (f (from + 3)) (f (from + 4)) (f (from + 5)) (f (from + 6)) (f (from + 7)) (number f from 8) refl in
    by r h k.0 k.1 k.2 k.3 k.4 k.5 k.6 k.7
  where
    by : (r : ℕ) → r < 8 → bit_at (number f from 8) 0 ≡ cond (f (from + 0)) 1 0 → bit_at (number f from 8) 1 ≡ cond (f (from + 1)) 1 0
        → bit_at (number f from 8) 2 ≡ cond (f (from + 2)) 1 0 → bit_at (number f from 8) 3 ≡ cond (f (from + 3)) 1 0
        → bit_at (number f from 8) 4 ≡ cond (f (from + 4)) 1 0 → bit_at (number f from 8) 5 ≡ cond (f (from + 5)) 1 0
        → bit_at (number f from 8) 6 ≡ cond (f (from + 6)) 1 0 → bit_at (number f from 8) 7 ≡ cond (f (from + 7)) 1 0
        → eqb (bit_at (number f from 8) r) 1 ≡ f (from + r)
    by zero lt a b c d e f g h = digit _ _ a
    by (suc zero) lt a b c d e f g h = digit _ _ b
    by (suc (suc zero)) lt a b c d e f g h = digit _ _ c
    by (suc (suc (suc zero))) lt a b c d e f g h = digit _ _ d
    by (suc (suc (suc (suc zero)))) lt a b c d e f g h = digit _ _ e
    by (suc (suc (suc (suc (suc zero))))) lt a b c d e f g h = digit _ _ f
    by (suc (suc (suc (suc (suc (suc zero)))))) lt a b c d e f g h = digit _ _ g
    by (suc (suc (suc (suc (suc (suc (suc zero))))))) lt a b c d e f g h = digit _ _ h
    by (suc (suc (suc (suc (suc (suc (suc (suc r)))))))) lt a b c d e f g h = absurd (omega arith)

pub bit_of-bytes_from : (bit : ℕ → Bool) (n x : ℕ) → x < 8 * n → bit_of (bytes_from bit 0 n) x ≡ bit x
bit_of-bytes_from bit n x h =
    let e : get_or (bytes_from bit 0 n) (x / 8) 0 ≡ number bit (8 * (0 + x / 8)) 8 = get_or-bytes_from bit 0 n (x / 8) (omega arith) in
    let at : 8 * (0 + x / 8) + x % 8 ≡ x = omega arith in
    ap (λ (b : ℕ). eqb (bit_at b (x % 8)) 1) e ∙ octet bit (8 * (0 + x / 8)) (x % 8) (omega arith) ∙ ap bit at

pub length-given_from : (bytes : List ℕ) (k n : ℕ) → length (given_from bytes k n) ≡ n
length-given_from bytes k zero = refl
length-given_from bytes k (suc n) = ap suc (length-given_from bytes (k + 1) n)

pub get_or-given_from : (bytes : List ℕ) (k n i : ℕ) → i < n → get_or (given_from bytes k n) i false ≡ bit_of bytes (k + i)
get_or-given_from bytes k zero i h = absurd (omega arith)
get_or-given_from bytes k (suc n) zero h = let e : k ≡ k + 0 = omega arith in ap (bit_of bytes) e
get_or-given_from bytes k (suc n) (suc i) h =
    let e : k + 1 + i ≡ k + suc i = omega arith in
    get_or-given_from bytes (k + 1) n i (omega arith) ∙ ap (bit_of bytes) e

-- bools that are these bits are those that are read
pub given-is : (bytes : List ℕ) (n : ℕ) (given : List Bool) → length given ≡ n → ((i : ℕ) → i < n → get_or given i false ≡ bit_of bytes i) → given ≡ given_from bytes 0 n
given-is bytes n given len same =
    ext_get_or false given (given_from bytes 0 n) (len ∙ sym (length-given_from bytes 0 n))
    (λ i l. let z : 0 + i ≡ i = omega arith in same i (omega (arith, len)) ∙ ap (bit_of bytes) (sym z) ∙ sym (get_or-given_from bytes 0 n i (omega (arith, len))))

pub packed-given : (B : ℕ) (bits : List ℕ) → B % 8 ≡ 0 → length bits ≡ B / 8 → ((k : ℕ) → get_or bits k 0 < 256) → packed B (given_from bits 0 B) ≡ bits
packed-given B bits whole len small =
    sym (bytes-from bits (λ i. slice_index_or (given_from bits 0 B) i false) (B / 8) len small
    (λ x lt. let z : 0 + x ≡ x = omega arith in ap (bit_of bits) (sym z) ∙ sym (get_or-given_from bits 0 B x (omega (arith, whole)))))

pub given-packed : (B : ℕ) (given : List Bool) → B % 8 ≡ 0 → length given ≡ B → given_from (packed B given) 0 B ≡ given
given-packed B given whole len =
    sym (given-is (packed B given) B given len
    (λ i lt. sym (bit_of-bytes_from (λ i. slice_index_or given i false) (B / 8) i (omega (arith, whole)))))
