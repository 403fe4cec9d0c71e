-- What lanes make of hexadecimal digits.
use Rattle.std.proofs.Common.{◌≡◌, ℕ, zero, suc, ◌+◌, ◌-◌, ◌*◌, ◌%◌, ◌^◌, ◌<◌, ◌≤◌, ◌==◌, Bool, true, false, List, [], ◌∷◌, ◌++◌, map, cond, length, get_or, Fits, w8, refl, sym, ap, ◌∙◌, arith, min, leb, replicate, subst, inl, inr}
use Rattle.std.proofs.{lemmas.Bool.{agree_below, agree_below_at, cases_lt, eqb-true}, lemmas.List.{get_or-map, get_or-replicate, get_or_append_left, length-map}}
use Rattle.std.proofs.lemmas.Simd.{length-chunk, get_or-chunk, get_or-zip2, get_or-put_chunk_below, get_or-put_chunk_at, tops_compared, mask_l-mod, zip2_splat_left, length-zip2}
use lib.Lanes.{chunk, zip2, sel_l, mask_l, pick_l, put_chunk, top}
use Rattle.hex.specs.Hex.{hex_digit_value}
use Rattle.trace_reader.{specs.Payload.{Tells, value_of}, proofs.Table.{ReadsDigits, or_none, value_of_digit}}

pub itself : (v : List ℕ) → v ≡ map (λ x. x) v
itself [] = refl
itself (x ∷ xs) = ap (λ r. x ∷ r) (itself xs)

sel-map : (f g h : ℕ → ℕ) (v : List ℕ) → sel_l (map (top 7) (map f v)) (map g v) (map h v) ≡ map (λ x. cond (top 7 (f x)) (g x) (h x)) v
sel-map f g h [] = refl
sel-map f g h (x ∷ xs) = ap (λ r. cond (top 7 (f x)) (g x) (h x) ∷ r) (sel-map f g h xs)

-- a choice lane by lane, of vectors that were computed lane by lane from v
pub chosen : (f g h : ℕ → ℕ) (v : List ℕ) {a b c : List ℕ} → a ≡ map f v → b ≡ map g v → c ≡ map h v
    → sel_l (map (top 7) a) b c ≡ map (λ x. cond (top 7 (f x)) (g x) (h x)) v
chosen f g h v p q r = rw (p, q, r) (sel-map f g h v)

-- lanes that tell of each of 256 bytes what it is as a digit do so of the bytes of a load
pub told : (d : List ℕ) (i n : ℕ) (z : List ℕ) (f : ℕ → ℕ) → i + n ≤ length d → ((k : ℕ) → Fits w8 (get_or d k 0)) → z ≡ map f (chunk i n d)
    → agree_below (λ x. min (f x) 16 == min (or_none (hex_digit_value x)) 16) (λ _. true) 256 ≡ true
    → (k : ℕ) → k < n → Tells (get_or d (i + k) 0) (get_or z k 0)
told d i n z f room fits lanes all k low =
    let long = length-chunk i n d room in
    let c : ℕ = get_or d (i + k) 0 in
    let is : get_or z k 0 ≡ f c =
    ap (λ l. get_or l k 0) lanes ∙ get_or-map f (chunk i n d) k 0 0 (omega arith) ∙ ap f (get_or-chunk i n d k 0 low) in
    ap (λ x. min x 16) is
    ∙ eqb-true _ _ (agree_below_at (λ x. min (f x) 16 == min (or_none (hex_digit_value x)) 16) (λ _. true) 256 c all (fits (i + k)).fits)
    ∙ ap (λ x. min x 16) (sym (value_of_digit c))

-- the mask of the lanes that reach y
pub reach_mask : (v : List ℕ) (n y : ℕ) → length v ≡ n → n ≤ 64
    → mask_l (map (top 7) (zip2 (λ a b. cond (leb a b) 255 0) (replicate n y) v)) % 2 ^ 64 ≡ mask_l (map (leb y) v)
reach_mask v n y long few =
    ap (λ ms. mask_l ms % 2 ^ 64) (tops_compared w8 leb (replicate n y) v ∙ zip2_splat_left leb y n v long)
    ∙ mask_l-mod (map (leb y) v) 64 (omega (arith, length-map v (leb y)))

-- no lane is in an empty mask
pub none_of_mask : (p : ℕ → Bool) (v : List ℕ) → mask_l (map p v) ≡ 0 → (k : ℕ) → k < length v → p (get_or v k 0) ≡ false
none_of_mask p [] e k low = absurd (omega arith)
none_of_mask p (x ∷ xs) e zero low = first (p x) (mask_l (map p xs)) e
  where
    first : (b : Bool) (m : ℕ) → cond b 1 0 + 2 * m ≡ 0 → b ≡ false
    first b m e = grind arith
none_of_mask p (x ∷ xs) e (suc k) low = none_of_mask p xs (omega arith) k (omega arith)

-- a lane is in a mask that isn't
pub some_of_mask : (p : ℕ → Bool) (v : List ℕ) → 0 < mask_l (map p v) → (k : ℕ) × (k < length v) × (p (get_or v k 0) ≡ true)
some_of_mask p [] some = absurd (omega arith)
some_of_mask p (x ∷ xs) some = by (some_of_mask p xs) (p x) refl
  where
    by : (0 < mask_l (map p xs) → (k : ℕ) × (k < length xs) × (p (get_or xs k 0) ≡ true)) → (b : Bool) → p x ≡ b
        → (k : ℕ) × (k < length (x ∷ xs)) × (p (get_or (x ∷ xs) k 0) ≡ true)
    by behind true e = (0, omega arith, e)
    by behind false e =
        let rest : 0 < cond false 1 0 + 2 * mask_l (map p xs) = subst (λ b. 0 < cond b 1 0 + 2 * mask_l (map p xs)) e some in
        let more = behind (omega arith) in
        (suc more.0, omega (arith, more.1), more.2)

-- lanes at places of a vector
pub picked : (v ks : List ℕ) (g : ℕ → ℕ) (n : ℕ) → length ks ≡ n → agree_below (λ k. get_or ks k 0 == g k) (λ _. true) n ≡ true
    → (k : ℕ) → k < n → g k < length v → get_or (pick_l 0 (v ++ v) ks) k 0 ≡ get_or v (g k) 0
picked v ks g n sized all k low within =
    let at : get_or ks k 0 ≡ g k = eqb-true _ _ (agree_below_at (λ k. get_or ks k 0 == g k) (λ _. true) n k all low) in
    get_or-map (λ j. get_or (v ++ v) j 0) ks k 0 0 (omega arith) ∙ ap (λ j. get_or (v ++ v) j 0) at ∙ get_or_append_left v v 0 (g k) within

abbrev pub plus : ℕ → ℕ → ℕ
plus a b = (a + b) % 2 ^ 8

abbrev pub times : ℕ → ℕ → ℕ
times a b = (a * b) % 2 ^ 8

-- high digits and low ones
pub two_digits : (high low : List ℕ) (k h l : ℕ) → length high ≡ 16 → length low ≡ 16 → k < 16 → get_or high k 0 ≡ h → get_or low k 0 ≡ l → h < 16 → l < 16
    → get_or (zip2 plus (zip2 times high (replicate 16 16)) low) k 0 ≡ h * 16 + l
two_digits high low k h l a b within e f p q =
    let many = length-zip2 times high (replicate 16 16) a in
    let first : get_or (zip2 times high (replicate 16 16)) k 0 ≡ times h 16 =
    get_or-zip2 times high (replicate 16 16) k 0 0 0 (omega arith) (omega arith)
    ∙ ap (times (get_or high k 0)) (get_or-replicate 16 k 16 0 within) ∙ ap (λ x. times x 16) e in
    get_or-zip2 plus (zip2 times high (replicate 16 16)) low k 0 0 0 (omega arith) (omega arith)
    ∙ ap (λ x. plus x (get_or low k 0)) first ∙ ap (plus (times h 16)) f ∙ omega arith

-- a step of lanes more
module _ (text bytes : List ℕ) (i : ℕ) (values sixteen : List ℕ) (reads : ReadsDigits text i bytes)
    (tell : (k : ℕ) → k < 32 → Tells (get_or text (2 * i + k) 0) (get_or values k 0)) where
  is_value : (k : ℕ) → k < 32 → get_or values k 0 < 16 → value_of (get_or text (2 * i + k) 0) ≡ get_or values k 0
  is_value k low digit = let same = tell k low in omega arith

  pub no_digit : (k : ℕ) → k < 32 → 16 ≤ get_or values k 0 → 16 ≤ value_of (get_or text (2 * i + k) 0)
  no_digit k low bad = let same = tell k low in omega arith

  pub sixteen_more : length sixteen ≡ 16 → i + 16 ≤ length bytes → ((k : ℕ) → k < 32 → get_or values k 0 < 16)
      → ((k : ℕ) → k < 16 → get_or sixteen k 0 ≡ get_or values (2 * k) 0 * 16 + get_or values (2 * k + 1) 0)
      → ReadsDigits text (i + 16) (put_chunk i bytes sixteen)
  sixteen_more sized room digit are = record {
    digits = λ k less.
        elim (cases_lt k (2 * i)) [
          | inl before ↦ reads.digits k before
          | inr here ↦
              let at : 2 * i + (k - 2 * i) ≡ k = omega arith in
              let is = is_value (k - 2 * i) (omega arith) (digit (k - 2 * i) (omega arith)) in
              let small = digit (k - 2 * i) (omega arith) in
              subst (λ m. value_of (get_or text m 0) < 16) at (omega (arith, is, small))
        ];
    are = λ k less.
        elim (cases_lt k i) [
          | inl before ↦ get_or-put_chunk_below i bytes sixteen k 0 before ∙ reads.are k before
          | inr here ↦
              let j : ℕ = k - i in
              let at : i + j ≡ k = omega arith in
              let high : 2 * i + 2 * j ≡ 2 * k = omega arith in
              let low : 2 * i + (2 * j + 1) ≡ 2 * k + 1 = omega arith in
              let a = is_value (2 * j) (omega arith) (digit (2 * j) (omega arith)) in
              let b = is_value (2 * j + 1) (omega arith) (digit (2 * j + 1) (omega arith)) in
              ap (λ m. get_or (put_chunk i bytes sixteen) m 0) (sym at) ∙ get_or-put_chunk_at i bytes sixteen j 0 (omega arith) (omega arith)
              ∙ are j (omega arith) ∙ ap (λ x. x * 16 + get_or values (2 * j + 1) 0) (sym a)
              ∙ ap (λ x. value_of (get_or text (2 * i + 2 * j) 0) * 16 + x) (sym b)
              ∙ ap (λ m. value_of (get_or text m 0) * 16 + value_of (get_or text (2 * i + (2 * j + 1)) 0)) high
              ∙ ap (λ m. value_of (get_or text (2 * k) 0) * 16 + value_of (get_or text m 0)) low
        ];
  }
