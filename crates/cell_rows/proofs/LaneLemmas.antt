-- Lists of bytes that are gone over sixteen at a time, and then one by one.
use Rattle.std.proofs.Common.{◌≡◌, ◌≢◌, ℕ, ◌+◌, ◌-◌, ◌*◌, ◌/◌, ◌%◌, ◌<◌, ◌≤◌, List, length, get_or, set, refl, sym, ◌∙◌, ap, inl, inr, arith, get_or-set_same, get_or-set_other, bit_or, [], ◌∷◌, replicate, zero, suc}
use Rattle.std.{specs.Int.Bits.or_zero_r, specs.Simd.Lanes.{zip2, chunk, put_chunk, fold_l}, proofs.lemmas.Bool.{cases_eq, cases_lt}, proofs.lemmas.Nat.{le_or_l, le_or_r}}
use Rattle.std.proofs.lemmas.Simd.{length-chunk, length-zip2, get_or-replicate, get_or-chunk, get_or-zip2, get_or-put_chunk_below, get_or-put_chunk_at, get_or-put_chunk_above}

-- the bytes of c below n are made of those of a and b, and the others are those of a
pub record Joins (join : ℕ → ℕ → ℕ) (a b c : List ℕ) (n : ℕ) : Type 0 where
  pub done : (k : ℕ) → k < n → get_or c k 0 ≡ join (get_or a k 0) (get_or b k 0)
  pub kept : (k : ℕ) → n ≤ k → get_or c k 0 ≡ get_or a k 0

pub joins_none : (join : ℕ → ℕ → ℕ) (a b : List ℕ) → Joins join a b a 0
joins_none join a b = record { done = λ k h. absurd (omega arith); kept = λ k h. refl }

-- sixteen more
pub joins_lanes : (join : ℕ → ℕ → ℕ) (a b c : List ℕ) (step : ℕ) → 16 * step + 16 ≤ length c → length c ≡ length b → Joins join a b c (16 * step)
    → Joins join a b (put_chunk (16 * step) c (zip2 join (chunk (16 * step) 16 c) (chunk (16 * step) 16 b))) (16 * (step + 1))
joins_lanes join a b c step room len joins =
    let n : ℕ = 16 * step in
    let x = chunk n 16 c in
    let y = chunk n 16 b in
    let new = zip2 join x y in
    let len_x : length x ≡ 16 = length-chunk n 16 c room in
    let len_y : length y ≡ 16 = length-chunk n 16 b (omega arith) in
    let len_new : length new ≡ 16 = length-zip2 join x y (omega arith) ∙ len_x in
    record {
      done = λ k low.
          elim (cases_lt k n) as (λ _. get_or (put_chunk n c new) k 0 ≡ join (get_or a k 0) (get_or b k 0)) [
            | inl before ↦ get_or-put_chunk_below n c new k 0 before ∙ joins.done k before
            | inr here ↦
                let j : ℕ = k - n in
                let back : n + j ≡ k = omega arith in
                ap (λ i. get_or (put_chunk n c new) i 0) (sym back)
                ∙ get_or-put_chunk_at n c new j 0 (omega arith) (omega arith)
                ∙ get_or-zip2 join x y j 0 0 0 (omega arith) (omega arith)
                ∙ ap (λ v. join v (get_or y j 0)) (get_or-chunk n 16 c j 0 (omega arith) ∙ ap (λ i. get_or c i 0) back ∙ joins.kept k here)
                ∙ ap (join (get_or a k 0)) (get_or-chunk n 16 b j 0 (omega arith) ∙ ap (λ i. get_or b i 0) back)
          ];
      kept = λ k high. get_or-put_chunk_above n c new k 0 (omega arith) ∙ joins.kept k (omega arith);
    }

-- one more
pub joins_byte : (join : ℕ → ℕ → ℕ) (a b c : List ℕ) (n : ℕ) → n < length c → Joins join a b c n
    → Joins join a b (set c n (join (get_or c n 0) (get_or b n 0))) (n + 1)
joins_byte join a b c n within joins = record {
  done = λ k low.
      elim (cases_eq k n) as (λ _. get_or (set c n (join (get_or c n 0) (get_or b n 0))) k 0 ≡ join (get_or a k 0) (get_or b k 0)) [
        | inl same ↦
            rw same
            (get_or-set_same c n (join (get_or c n 0) (get_or b n 0)) 0 within ∙ ap (λ v. join v (get_or b n 0)) (joins.kept n (omega arith)))
        | inr apart ↦ get_or-set_other c n k (join (get_or c n 0) (get_or b n 0)) 0 apart ∙ joins.done k (omega arith)
      ];
  kept = λ k high. get_or-set_other c n k (join (get_or c n 0) (get_or b n 0)) 0 (omega arith) ∙ joins.kept k (omega arith);
}

-- no byte below n is above its lane of the sixteen, and where a lane isn't 0 some byte below n isn't
pub record Gathers (bytes lanes : List ℕ) (n : ℕ) : Type 0 where
  pub size : length lanes ≡ 16
  pub low : (m j : ℕ) → j < 16 → 16 * m + j < n → get_or bytes (16 * m + j) 0 ≤ get_or lanes j 0
  pub some : (j : ℕ) → j < 16 → get_or lanes j 0 ≢ 0 → (k : ℕ) × (k < n) × (get_or bytes k 0 ≢ 0)

pub gathers_none : (bytes : List ℕ) → Gathers bytes (replicate 16 0) 0
gathers_none bytes = record {
  size = refl;
  low = λ m j few within. absurd (omega arith);
  some = λ j few other. absurd (other (get_or-replicate 16 j 0 0 few));
}

-- where the or of two numbers isn't 0, one of them isn't
some_of_or : (a b : ℕ) → bit_or a b ≢ 0 → a ≡ 0 → b ≢ 0
some_of_or a b other none e = other (ap (bit_or a) e ∙ or_zero_r a ∙ none)

pub gathers_lanes : (bytes lanes : List ℕ) (step : ℕ) → 16 * step + 16 ≤ length bytes → Gathers bytes lanes (16 * step)
    → Gathers bytes (zip2 bit_or lanes (chunk (16 * step) 16 bytes)) (16 * (step + 1))
gathers_lanes bytes lanes step room gathers =
    let y = chunk (16 * step) 16 bytes in
    let len_y : length y ≡ 16 = length-chunk (16 * step) 16 bytes room in
    let lane : (j : ℕ) → j < 16 → get_or (zip2 bit_or lanes y) j 0 ≡ bit_or (get_or lanes j 0) (get_or bytes (16 * step + j) 0) = λ j low.
    get_or-zip2 bit_or lanes y j 0 0 0 (omega (arith, gathers.size)) (omega arith)
    ∙ ap (bit_or (get_or lanes j 0)) (get_or-chunk (16 * step) 16 bytes j 0 low) in
    record {
      size = length-zip2 bit_or lanes y (gathers.size ∙ sym len_y) ∙ gathers.size;
      low = λ m j few within.
          rw (lane j few)
          (elim (cases_eq m step) as (λ _. get_or bytes (16 * m + j) 0 ≤ bit_or (get_or lanes j 0) (get_or bytes (16 * step + j) 0)) [
            | inl same ↦ rw same (le_or_r (get_or lanes j 0) (get_or bytes (16 * step + j) 0))
            | inr apart ↦ omega (arith, gathers.low m j few (omega arith), le_or_l (get_or lanes j 0) (get_or bytes (16 * step + j) 0))
          ]);
      some = λ j few other.
          elim (cases_eq (get_or lanes j 0) 0) as (λ _. (k : ℕ) × (k < 16 * (step + 1)) × (get_or bytes k 0 ≢ 0)) [
            | inl none ↦ (16 * step + j, omega arith, some_of_or _ _ (λ e. other (lane j few ∙ e)) none)
            | inr is ↦ let (k, below, more) = gathers.some j few is in (k, omega arith, more)
          ];
    }

le_fold : (a : ℕ) (xs : List ℕ) → a ≤ fold_l bit_or a xs
le_fold a [] = omega arith
le_fold a (x ∷ xs) = omega (arith, le_or_l a x, le_fold (bit_or a x) xs)

-- no lane is above the or of all
lane_le_fold : (a : ℕ) (xs : List ℕ) (j : ℕ) → j < length xs → get_or xs j 0 ≤ fold_l bit_or a xs
lane_le_fold a [] j within = absurd (omega arith)
lane_le_fold a (x ∷ xs) zero within = omega (arith, le_or_r a x, le_fold (bit_or a x) xs)
lane_le_fold a (x ∷ xs) (suc j) within = lane_le_fold (bit_or a x) xs j (omega arith)

-- and where that isn't 0, some lane isn't
some_lane : (a : ℕ) (xs : List ℕ) → fold_l bit_or a xs ≢ 0 → a ≡ 0 → (j : ℕ) × (j < length xs) × (get_or xs j 0 ≢ 0)
some_lane a [] other none = absurd (other none)
some_lane a (x ∷ xs) other none =
    elim (cases_eq x 0) as (λ _. (j : ℕ) × (j < length (x ∷ xs)) × (get_or (x ∷ xs) j 0 ≢ 0)) [
      | inl zero_x ↦
          let (j, low, is) = some_lane (bit_or a x) xs other (ap (bit_or a) zero_x ∙ or_zero_r a ∙ none) in (suc j, omega arith, is)
      | inr is ↦ (0, omega arith, is)
    ]

-- no byte below n is above `all`, and where this isn't 0 some byte below n isn't
pub record Bounds (bytes : List ℕ) (all n : ℕ) : Type 0 where
  pub low : (k : ℕ) → k < n → get_or bytes k 0 ≤ all
  pub some : all ≢ 0 → (k : ℕ) × (k < n) × (get_or bytes k 0 ≢ 0)

pub bounds_lanes : (bytes lanes : List ℕ) (n : ℕ) → Gathers bytes lanes n → Bounds bytes (fold_l bit_or 0 lanes) n
bounds_lanes bytes lanes n gathers = record {
  low = λ k within.
      let m : ℕ = k / 16 in
      let j : ℕ = k % 16 in
      let back : 16 * m + j ≡ k = omega arith in
      let few : j < 16 = omega arith in
      omega (arith, ap (λ i. get_or bytes i 0) back, gathers.low m j few (omega arith), lane_le_fold 0 lanes j (omega (arith, gathers.size)));
  some = λ other.
      let (j, low, is) = some_lane 0 lanes other refl in
      gathers.some j (omega (arith, gathers.size)) is;
}

pub bounds_byte : (bytes : List ℕ) (all n : ℕ) → Bounds bytes all n → Bounds bytes (bit_or all (get_or bytes n 0)) (n + 1)
bounds_byte bytes all n bounds =
    let byte = get_or bytes n 0 in
    record {
      low = λ k h.
          elim (cases_eq k n) as (λ _. get_or bytes k 0 ≤ bit_or all byte) [
            | inl same ↦ rw same (le_or_r all byte)
            | inr apart ↦ omega (arith, bounds.low k (omega arith), le_or_l all byte)
          ];
      some = λ other.
          elim (cases_eq all 0) as (λ _. (k : ℕ) × (k < n + 1) × (get_or bytes k 0 ≢ 0)) [
            | inl none ↦ (n, omega arith, some_of_or all byte other none)
            | inr is ↦ let (k, low, more) = bounds.some is in (k, omega arith, more)
          ];
    }
