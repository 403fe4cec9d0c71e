-- The rounds of the network keep the halves in range, and each undoes itself.
use Rattle.std.proofs.Common.{◌≡◌, ℕ, ◌+◌, ◌*◌, ◌%◌, ◌^◌, ◌<◌, bit_xor, refl, sym, ◌∙◌, ap, arith}
use Rattle.std.specs.Int.Bits.{xor_self, xor_assoc, xor_zero_r}
use Rattle.std.proofs.lemmas.Nat.{pow_pos, pow-add, xor_lt, shr_below, mod_below, mul-lt, mul-add-lt, div-mul-add, mod-mul-add, div-add-mod'}
use Rattle.feistel_map.specs.Network.{Network, AreHalves, left_bits, right_bits, halves_of, joined, mixed, left_round, right_round, three_rounds, feistel, unfeistel}
use Rattle.feistel_map.specs.declared.halves.Halves.{Halves}

-- ---- ranges

pub whole : (b : ℕ) → 2 ^ left_bits b * 2 ^ right_bits b ≡ 2 ^ b
whole b = sym (pow-add 2 (left_bits b) (right_bits b)) ∙ ap (λ n. 2 ^ n) (omega arith)

pub square_fits : (x : ℕ) → x < 2 ^ 16 → x * x < 2 ^ 32
square_fits x h = mul-lt x x (2 ^ 16) (2 ^ 16) h h

pub halves_of-range : (b n : ℕ) → n < 2 ^ b → AreHalves b (halves_of b n)
halves_of-range b n h = record {
  left_fits = shr_below n (left_bits b) (right_bits b) (let e : left_bits b + right_bits b ≡ b = omega arith in rw e h);
  right_fits = mod_below n (2 ^ right_bits b) (pow_pos (right_bits b));
}

pub joined-below : (b : ℕ) (h : Halves) → AreHalves b h → joined b h < 2 ^ b
joined-below b h range =
    omega (arith, mul-add-lt h.left (2 ^ right_bits b) h.right (2 ^ left_bits b) range.left_fits range.right_fits, whole b)

pub left_round-range : (b x : ℕ) (h : Halves) → AreHalves b h → x < 2 ^ left_bits b → AreHalves b (record { left = bit_xor h.left x; right = h.right })
left_round-range b x h range below = record { left_fits = xor_lt (left_bits b) h.left x range.left_fits below; right_fits = range.right_fits }

pub right_round-range : (b x : ℕ) (h : Halves) → AreHalves b h → x < 2 ^ right_bits b → AreHalves b (record { left = h.left; right = bit_xor h.right x })
right_round-range b x h range below = record { left_fits = range.left_fits; right_fits = xor_lt (right_bits b) h.right x range.right_fits below }

-- ---- inverses

xor_twice : (a x : ℕ) → bit_xor (bit_xor a x) x ≡ a
xor_twice a x = xor_assoc a x x ∙ ap (λ n. bit_xor a n) (xor_self x) ∙ xor_zero_r a

left_round-twice : (b key : ℕ) (h : Halves) → left_round b key (left_round b key h) ≡ h
left_round-twice b key h = ap (λ n. record { left = n; right = h.right }) (xor_twice h.left (mixed key h.right % 2 ^ left_bits b))

right_round-twice : (b key : ℕ) (h : Halves) → right_round b key (right_round b key h) ≡ h
right_round-twice b key h = ap (λ n. record { left = h.left; right = n }) (xor_twice h.right (mixed key h.left % 2 ^ right_bits b))

halves_of-joined : (b : ℕ) (h : Halves) → h.right < 2 ^ right_bits b → halves_of b (joined b h) ≡ h
halves_of-joined b h fits =
    rw (div-mul-add h.left (2 ^ right_bits b) h.right fits, mod-mul-add h.left (2 ^ right_bits b) h.right fits) refl

joined-halves_of : (b n : ℕ) → joined b (halves_of b n) ≡ n
joined-halves_of b n = div-add-mod' n (2 ^ right_bits b)

right_fits : (b x n : ℕ) → n < 2 ^ right_bits b → bit_xor n (x % 2 ^ right_bits b) < 2 ^ right_bits b
right_fits b x n h = xor_lt (right_bits b) n (x % 2 ^ right_bits b) h (mod_below x (2 ^ right_bits b) (pow_pos (right_bits b)))

-- three rounds, and the same in the other order
pub there_and_back : (b k1 k2 k3 n : ℕ) → three_rounds b k3 k2 k1 (three_rounds b k1 k2 k3 n) ≡ n
there_and_back b k1 k2 k3 n =
    let first : Halves = left_round b k1 (halves_of b n) in
    let second : Halves = right_round b k2 first in
    let fits : second.right < 2 ^ right_bits b
    = right_fits b (mixed k2 first.left) first.right (mod_below n (2 ^ right_bits b) (pow_pos (right_bits b))) in
    ap (λ (h : Halves). joined b (left_round b k1 (right_round b k2 (left_round b k3 h)))) (halves_of-joined b (left_round b k3 second) fits)
    ∙ ap (λ (h : Halves). joined b (left_round b k1 (right_round b k2 h))) (left_round-twice b k3 second)
    ∙ ap (λ (h : Halves). joined b (left_round b k1 h)) (right_round-twice b k2 first)
    ∙ ap (joined b) (left_round-twice b k1 (halves_of b n))
    ∙ joined-halves_of b n

pub unfeistel-feistel : (net : Network) (n : ℕ) → unfeistel net (feistel net n) ≡ n
unfeistel-feistel net n = there_and_back net.bits net.first net.second net.third n

pub feistel-unfeistel : (net : Network) (n : ℕ) → feistel net (unfeistel net n) ≡ n
feistel-unfeistel net n = there_and_back net.bits net.third net.second net.first n

-- two numbers are never mixed into one
pub feistel-apart : (net : Network) (m n : ℕ) → feistel net m ≡ feistel net n → m ≡ n
feistel-apart net m n e = sym (unfeistel-feistel net m) ∙ ap (unfeistel net) e ∙ unfeistel-feistel net n
