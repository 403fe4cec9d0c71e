-- What lanes make of bytes, and the digits that they write.
use Rattle.std.proofs.Common.{◌≡◌, ℕ, ◌/◌, ◌%◌, ◌<◌, ◌==◌, true, List, [], ◌∷◌, ◌++◌, map, cond, length, replicate, get_or, slice_index, refl, sym, ap, ◌∙◌, subst, arith}
use Rattle.std.proofs.{lemmas.Bool.{agree_below, agree_below_at, eqb-true, ltb-true}, lemmas.List.{ext_get_or, get_or-map, length-map}, lemmas.Simd.pick_l_whole}
use lib.{Dec.ltb, Lanes.{pick_l, sel_l, top}}
use Rattle.hex.specs.Hex.{encode_lower, encode_with, lower_digits}

choice : (f : ℕ → ℕ) (a b : ℕ) (v : List ℕ) → sel_l (map (top 7) (map f v)) (replicate (length v) a) (replicate (length v) b) ≡ map (λ x. cond (top 7 (f x)) a b) v
choice f a b [] = refl
choice f a b (x ∷ xs) = ap (λ r. cond (top 7 (f x)) a b ∷ r) (choice f a b xs)

-- one of two numbers for each lane, by a test that was made lane by lane
pub one_of_two : (f : ℕ → ℕ) (a b n : ℕ) (v : List ℕ) {tests : List ℕ} → length v ≡ n → tests ≡ map f v
    → sel_l (map (top 7) tests) (replicate n a) (replicate n b) ≡ map (λ x. cond (top 7 (f x)) a b) v
one_of_two f a b n v long lanes = rw (← long, lanes) (choice f a b v)

-- what f makes of lanes below n, where g gives the same for each number below n
pub same_lanes : (f g : ℕ → ℕ) (n : ℕ) (v : List ℕ) {z : List ℕ} → z ≡ map f v → ((k : ℕ) → k < length v → get_or v k 0 < n)
    → agree_below (λ x. f x == g x) (λ _. true) n ≡ true → z ≡ map g v
same_lanes f g n v lanes small all =
    lanes
    ∙ ext_get_or 0 (map f v) (map g v) (length-map v f ∙ sym (length-map v g))
    (λ k low.
    let within : k < length v = omega (arith, low, length-map v f) in
    get_or-map f v k 0 0 within
    ∙ eqb-true _ _ (agree_below_at (λ x. f x == g x) (λ _. true) n (get_or v k 0) all (small k within))
    ∙ sym (get_or-map g v k 0 0 within))

-- what is made of lanes below n, where it is small of each number below n
pub small_lanes : (f : ℕ → ℕ) (n bound : ℕ) (v : List ℕ) {z : List ℕ} → z ≡ map f v → ((k : ℕ) → get_or v k 0 < n)
    → agree_below (λ x. ltb (f x) bound) (λ _. true) n ≡ true → (k : ℕ) → k < length v → get_or z k 0 < bound
small_lanes f n bound v lanes small all k low =
    subst (λ x. x < bound) (sym (ap (λ l. get_or l k 0) lanes ∙ get_or-map f v k 0 0 low))
    (ltb-true _ _ (agree_below_at (λ x. ltb (f x) bound) (λ _. true) n (get_or v k 0) all (small k)))

-- the digits of a byte
abbrev pub high_digit : ℕ → ℕ
high_digit byte = slice_index lower_digits (byte / 16)

abbrev pub low_digit : ℕ → ℕ
low_digit byte = slice_index lower_digits (byte % 16)

abbrev pub positions : List ℕ
positions =
    0 ∷ 16 ∷ 1 ∷ 17 ∷ 2 ∷ 18 ∷ 3 ∷ 19 ∷ 4 ∷ 20 ∷ 5 ∷ 21 ∷ 6 ∷ 22 ∷ 7 ∷ 23 ∷ 8 ∷ 24 ∷ 9 ∷ 25 ∷ 10 ∷ 26 ∷ 11 ∷ 27 ∷ 12 ∷ 28 ∷ 13 ∷ 29 ∷ 14 ∷ 30 ∷ 15 ∷ 31 ∷ []

-- the high digits and the low ones in turn
pub shuffled : (bytes : List ℕ) → length bytes ≡ 16 → pick_l 0 (map high_digit bytes ++ map low_digit bytes) positions ≡ encode_lower bytes
unfolding encode_with
shuffled bytes long =
    subst (λ v. pick_l 0 (map high_digit v ++ map low_digit v) positions ≡ encode_lower v) (pick_l_whole 0 bytes 16 long) refl
