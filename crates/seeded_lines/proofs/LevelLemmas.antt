-- Lanes that bring counts up to date.
use Rattle.std.proofs.Common.{◌≡◌, ℕ, zero, suc, ◌+◌, ◌-◌, ◌*◌, ◌/◌, ◌%◌, ◌^◌, ◌<◌, ◌≤◌, Bool, true, false, cond, eqb, eq-eqb, ne_eqb, List, [], ◌∷◌, ◌++◌, length, map, get_or, refl, sym, ◌∙◌, ap, inl, inr, arith, bit_and, bit_or, w32}
use Rattle.std.{specs.Int.bit_at, specs.List.range_with_len, specs.Simd.Lanes.{zip2, sel_l, pick_l, top}, proofs.Math.Dec.ltb}
use Rattle.std.proofs.{lemmas.Bool.{cases_eq, cases_lt, lt-ltb, le-ltb}, lemmas.List.{get_or-map, length-map}, lemmas.Nat.{pow_pos, shr-shr, shr_split}}
use Rattle.std.proofs.lemmas.Nat.Bits.{and_pow, bit_at-lt, bit_at_cat_low}
use Rattle.std.proofs.lemmas.Simd.{tops_compared, length-zip2, length-sel_l, get_or-zip2, get_or-sel_l, get_or-chunk, pick_l_left, pick_l-range_with_len}
use Rattle.seeded_lines.specs.Planes.{bit_in, number_of}

-- what a lane holds where a byte has its digit, by the number whose only digit that is
abbrev lane : ℕ → ℕ → ℕ → ℕ
lane byte one value = cond (top 7 (cond (eqb (bit_and byte one) one) 255 0)) value 0

lane_is : (byte one k value : ℕ) → one ≡ 2 ^ k → lane byte one value ≡ cond (bit_in byte k) value 0
lane_is byte one k value is =
    elim (cases_eq (bit_at byte k) 1) as (λ _. lane byte one value ≡ cond (bit_in byte k) value 0) [
      | inl has ↦
          let met : bit_and byte one ≡ one =
          ap (bit_and byte) is ∙ and_pow byte k ∙ ap (λ x. x * 2 ^ k) has ∙ omega (arith, is) in
          ap (λ t. cond (top 7 (cond t 255 0)) value 0) (eq-eqb _ _ met) ∙ sym (ap (λ t. cond t value 0) (eq-eqb _ 1 has))
      | inr other ↦
          let none : bit_at byte k ≡ 0 = omega (arith, bit_at-lt byte k, other) in
          let nothing : bit_and byte one ≡ 0 = ap (bit_and byte) is ∙ and_pow byte k ∙ ap (λ x. x * 2 ^ k) none ∙ omega arith in
          ap (λ t. cond (top 7 (cond t 255 0)) value 0) (ne_eqb _ _ (λ e. absurd (omega (arith, e, nothing, is, pow_pos k))))
          ∙ sym (ap (λ t. cond t value 0) (ne_eqb _ 1 other))
    ]

low_byte : (x k : ℕ) → k < 8 → bit_in (x % 256) k ≡ bit_in x k
low_byte x k low = ap (λ b. eqb b 1) (sym (bit_at_cat_low (x / 256) 8 (x % 256) k low)) ∙ ap (λ y. bit_in y k) (shr_split x 8)

first_byte : (bits k value one : ℕ) → k < 8 → one ≡ 2 ^ k → lane ((bits + 0) % 256) one value ≡ cond (bit_in bits k) value 0
first_byte bits k value one low is =
    let same : bits + 0 ≡ bits = omega arith in
    lane_is ((bits + 0) % 256) one k value is ∙ ap (λ t. cond t value 0) (low_byte (bits + 0) k low ∙ ap (λ x. bit_in x k) same)

second_byte : (bits k value one n : ℕ) → k < 8 → one ≡ 2 ^ k → n ≡ 8 + k → lane ((bits + 0) / 256 % 256) one value ≡ cond (bit_in bits n) value 0
second_byte bits k value one n low is number =
    let same : bits + 0 ≡ bits = omega arith in
    lane_is ((bits + 0) / 256 % 256) one k value is
    ∙ ap (λ t. cond t value 0)
    (low_byte ((bits + 0) / 256) k low ∙ ap (λ x. bit_in (x / 256) k) same ∙ ap (λ x. eqb (x % 2) 1) (shr-shr bits 8 k) ∙ ap (bit_in bits) (sym number))

-- the lanes of sixteen bits
abbrev spread_lanes : ℕ → ℕ → List ℕ
spread_lanes bits value =
    let a : ℕ = (bits + 0) % 256 in
    let b : ℕ = (bits + 0) / 256 % 256 in
    lane a 1 value ∷ lane a 2 value ∷ lane a 4 value ∷ lane a 8 value ∷ lane a 16 value ∷ lane a 32 value ∷ lane a 64 value ∷ lane a 128 value
    ∷ lane b 1 value ∷ lane b 2 value ∷ lane b 4 value ∷ lane b 8 value ∷ lane b 16 value ∷ lane b 32 value ∷ lane b 64 value ∷ lane b 128 value ∷ []

pub spread_lane : (bits value i : ℕ) → i < 16 → get_or (spread_lanes bits value) i 0 ≡ cond (bit_in bits i) value 0
spread_lane bits value zero low = first_byte bits 0 value 1 (omega arith) refl
spread_lane bits value (suc zero) low = first_byte bits 1 value 2 (omega arith) refl
spread_lane bits value (suc (suc zero)) low = first_byte bits 2 value 4 (omega arith) refl
spread_lane bits value (suc (suc (suc zero))) low = first_byte bits 3 value 8 (omega arith) refl
spread_lane bits value (suc (suc (suc (suc zero)))) low = first_byte bits 4 value 16 (omega arith) refl
spread_lane bits value (suc (suc (suc (suc (suc zero))))) low = first_byte bits 5 value 32 (omega arith) refl
spread_lane bits value (suc (suc (suc (suc (suc (suc zero)))))) low = first_byte bits 6 value 64 (omega arith) refl
spread_lane bits value (suc (suc (suc (suc (suc (suc (suc zero))))))) low = first_byte bits 7 value 128 (omega arith) refl
spread_lane bits value (suc (suc (suc (suc (suc (suc (suc (suc i)))))))) low = upper i (omega arith)
  where
    upper : (i : ℕ) → i < 8 → get_or (spread_lanes bits value) (suc (suc (suc (suc (suc (suc (suc (suc i)))))))) 0 ≡ cond (bit_in bits (suc (suc (suc (suc (suc (suc (suc (suc i))))))))) value 0
    upper zero low = second_byte bits 0 value 1 8 (omega arith) refl refl
    upper (suc zero) low = second_byte bits 1 value 2 9 (omega arith) refl refl
    upper (suc (suc zero)) low = second_byte bits 2 value 4 10 (omega arith) refl refl
    upper (suc (suc (suc zero))) low = second_byte bits 3 value 8 11 (omega arith) refl refl
    upper (suc (suc (suc (suc zero)))) low = second_byte bits 4 value 16 12 (omega arith) refl refl
    upper (suc (suc (suc (suc (suc zero))))) low = second_byte bits 5 value 32 13 (omega arith) refl refl
    upper (suc (suc (suc (suc (suc (suc zero)))))) low = second_byte bits 6 value 64 14 (omega arith) refl refl
    upper (suc (suc (suc (suc (suc (suc (suc zero))))))) low = second_byte bits 7 value 128 15 (omega arith) refl refl
    upper (suc (suc (suc (suc (suc (suc (suc (suc i)))))))) low = absurd (omega arith)

or_number : (low middle high : Bool) → bit_or (bit_or (cond low 1 0) (cond middle 2 0)) (cond high 4 0) ≡ number_of low middle high
or_number false false false = refl
or_number false false true = refl
or_number false true false = refl
or_number false true true = refl
or_number true false false = refl
or_number true false true = refl
or_number true true false = refl
or_number true true true = refl

-- eight of sixteen lanes, from one on, of the numbers with these digits
pub number_lane : (a b c : List ℕ) (low middle high : Bool) (from i : ℕ) → length a ≡ 16 → length b ≡ 16 → length c ≡ 16
    → from + 8 ≤ 16 → i < 8
    → pick_l 0 (zip2 bit_or (zip2 bit_or a b) c ++ zip2 bit_or (zip2 bit_or a b) c) (range_with_len from 8)
    ≡ pick_l 0 (zip2 bit_or (zip2 bit_or a b) c) (range_with_len from 8)
    → get_or a (from + i) 0 ≡ cond low 1 0 → get_or b (from + i) 0 ≡ cond middle 2 0 → get_or c (from + i) 0 ≡ cond high 4 0
    → get_or (pick_l 0 (zip2 bit_or (zip2 bit_or a b) c ++ zip2 bit_or (zip2 bit_or a b) c) (range_with_len from 8)) i 0 ≡ number_of low middle high
number_lane a b c low middle high from i len_a len_b len_c room few left a_is b_is c_is =
    let ab = zip2 bit_or a b in
    let all = zip2 bit_or ab c in
    let len_ab : length ab ≡ 16 = length-zip2 bit_or a b (omega arith) ∙ len_a in
    let len : length all ≡ 16 = length-zip2 bit_or ab c (omega arith) ∙ len_ab in
    ap (λ l. get_or l i 0) (left ∙ pick_l-range_with_len 0 all from 8 (omega arith)) ∙ get_or-chunk from 8 all i 0 few
    ∙ get_or-zip2 bit_or ab c (from + i) 0 0 0 (omega arith) (omega arith)
    ∙ ap (λ x. bit_or x (get_or c (from + i) 0)) (get_or-zip2 bit_or a b (from + i) 0 0 0 (omega arith) (omega arith))
    ∙ rw (a_is, b_is, c_is) (or_number low middle high)

-- eight lanes of sixteen are among the first copy of them
pub first_lanes : (a b c : List ℕ) → length a ≡ 16 → length b ≡ 16 → length c ≡ 16
    → pick_l 0 (zip2 bit_or (zip2 bit_or a b) c ++ zip2 bit_or (zip2 bit_or a b) c) (range_with_len 0 8)
    ≡ pick_l 0 (zip2 bit_or (zip2 bit_or a b) c) (range_with_len 0 8)
first_lanes a b c len_a len_b len_c =
    let all = zip2 bit_or (zip2 bit_or a b) c in
    let len : length all ≡ 16 = length-zip2 bit_or (zip2 bit_or a b) c (length-zip2 bit_or a b (omega arith) ∙ omega arith) ∙ length-zip2 bit_or a b (omega arith) ∙ len_a in
    pick_l_left 0 all all 16 (range_with_len 0 8) len tt

pub last_lanes : (a b c : List ℕ) → length a ≡ 16 → length b ≡ 16 → length c ≡ 16
    → pick_l 0 (zip2 bit_or (zip2 bit_or a b) c ++ zip2 bit_or (zip2 bit_or a b) c) (range_with_len 8 8)
    ≡ pick_l 0 (zip2 bit_or (zip2 bit_or a b) c) (range_with_len 8 8)
last_lanes a b c len_a len_b len_c =
    let all = zip2 bit_or (zip2 bit_or a b) c in
    let len : length all ≡ 16 = length-zip2 bit_or (zip2 bit_or a b) c (length-zip2 bit_or a b (omega arith) ∙ omega arith) ∙ length-zip2 bit_or a b (omega arith) ∙ len_a in
    pick_l_left 0 all all 16 (range_with_len 8 8) len tt

-- less so much, down to 0
less_to_zero : (a b : ℕ) → a < 2 ^ 32 → b < 2 ^ 32 → (cond (ltb a b) b a + (2 ^ 32 - b)) % 2 ^ 32 ≡ a - b
less_to_zero a b small_a small_b =
    elim (cases_lt a b) as (λ _. (cond (ltb a b) b a + (2 ^ 32 - b)) % 2 ^ 32 ≡ a - b) [
      | inl low ↦ rw (lt-ltb a b low) (omega arith)
      | inr high ↦ rw (le-ltb a b high) (omega arith)
    ]

-- each of eight lanes less what stands in another's
pub less_lane : (row less : List ℕ) (i : ℕ) → length row ≡ 8 → length less ≡ 8 → i < 8 → get_or row i 0 < 2 ^ 32 → get_or less i 0 < 2 ^ 32
    → get_or
    (zip2 (λ a b. (a + (2 ^ 32 - b)) % 2 ^ 32)
    (sel_l (map (top 31) (zip2 (λ a b. cond (ltb a b) (2 ^ 32 - 1) 0) row (map (λ a. a) less))) (map (λ a. a) less) row)
    (map (λ a. a) less))
    i 0
    ≡ get_or row i 0 - get_or less i 0
less_lane row less i len_row len_less few small_row small_less =
    let f : ℕ → ℕ → ℕ = λ a b. (a + (2 ^ 32 - b)) % 2 ^ 32 in
    let wide = map (λ (a : ℕ). a) less in
    let len : length wide ≡ 8 = length-map less (λ (a : ℕ). a) ∙ len_less in
    let tests = zip2 ltb row wide in
    let len_tests : length tests ≡ 8 = length-zip2 ltb row wide (omega arith) ∙ len_row in
    let most = sel_l tests wide row in
    let len_most : length most ≡ 8 = length-sel_l tests wide row (omega arith) (omega arith) ∙ len_tests in
    ap (λ m. get_or (zip2 f (sel_l m wide row) wide) i 0) (tops_compared w32 ltb row wide)
    ∙ get_or-zip2 f most wide i 0 0 0 (omega arith) (omega arith)
    ∙ ap (λ x. f x (get_or wide i 0))
    (get_or-sel_l tests wide row i 0 (omega arith) (omega arith) (omega arith)
    ∙ ap (λ t. cond t (get_or wide i 0) (get_or row i 0)) (get_or-zip2 ltb row wide i 0 0 false (omega arith) (omega arith)))
    ∙ ap (λ b. (cond (ltb (get_or row i 0) b) b (get_or row i 0) + (2 ^ 32 - b)) % 2 ^ 32) (get_or-map (λ (a : ℕ). a) less i 0 0 (omega arith))
    ∙ less_to_zero (get_or row i 0) (get_or less i 0) small_row small_less

-- the digits of numbers that were moved down
pub number_up : (low middle high from i at : ℕ) → at ≡ from + i
    → number_of (bit_in (low / 2 ^ from) i) (bit_in (middle / 2 ^ from) i) (bit_in (high / 2 ^ from) i) ≡ number_of (bit_in low at) (bit_in middle at) (bit_in high at)
number_up low middle high from i at number =
    let up : (bits : ℕ) → bit_in (bits / 2 ^ from) i ≡ bit_in bits at = λ bits. ap (λ x. eqb (x % 2) 1) (shr-shr bits from i) ∙ ap (bit_in bits) (sym number) in
    rw (up low, up middle, up high) refl
