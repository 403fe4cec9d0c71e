-- A number that is written into a line, and the others there.
use Rattle.std.proofs.Common.{◌≡◌, ◌≢◌, ◌⊎◌, ℕ, ◌+◌, ◌*◌, ◌/◌, ◌%◌, ◌^◌, ◌<◌, ◌≤◌, List, Bool, true, false, length, get_or, set, replicate, refl, sym, ◌∙◌, arith, inl, inr, if◌then◌else◌}
use Rattle.std.proofs.lemmas.List.{length-replicate, length-set, get_or-replicate, get_or-set_same, get_or-set_other}
use Rattle.masked_bytes.{specs.Masked.laid, proofs.Layering.get_or-laid}
use Rattle.atomic_sectors.specs.Numbers.{number_at, with_four, number_bytes, number_given}

module _ {A : Type 0} (xs : List A) (at : ℕ) (a b c d : A) where
  pub length-with_four : length (with_four xs at a b c d) ≡ length xs
  length-with_four = simp length-set

  pub with_four-0 : (e : A) → at + 4 ≤ length xs → get_or (with_four xs at a b c d) at e ≡ a
  with_four-0 e fits =
      let n3 : at ≢ at + 3 = omega arith in
      let n2 : at ≢ at + 2 = omega arith in
      let n1 : at ≢ at + 1 = omega arith in
      let h : at < length xs = omega arith in
      get_or-set_other _ (at + 3) at d e n3 ∙ get_or-set_other _ (at + 2) at c e n2 ∙ get_or-set_other _ (at + 1) at b e n1 ∙ get_or-set_same xs at a e h

  pub with_four-1 : (e : A) → at + 4 ≤ length xs → get_or (with_four xs at a b c d) (at + 1) e ≡ b
  with_four-1 e fits =
      let n3 : at + 1 ≢ at + 3 = omega arith in
      let n2 : at + 1 ≢ at + 2 = omega arith in
      let h : at + 1 < length (set xs at a) = simp length-set (omega arith) in
      get_or-set_other _ (at + 3) (at + 1) d e n3 ∙ get_or-set_other _ (at + 2) (at + 1) c e n2 ∙ get_or-set_same (set xs at a) (at + 1) b e h

  pub with_four-2 : (e : A) → at + 4 ≤ length xs → get_or (with_four xs at a b c d) (at + 2) e ≡ c
  with_four-2 e fits =
      let n3 : at + 2 ≢ at + 3 = omega arith in
      let h : at + 2 < length (set (set xs at a) (at + 1) b) = simp length-set (omega arith) in
      get_or-set_other _ (at + 3) (at + 2) d e n3 ∙ get_or-set_same (set (set xs at a) (at + 1) b) (at + 2) c e h

  pub with_four-3 : (e : A) → at + 4 ≤ length xs → get_or (with_four xs at a b c d) (at + 3) e ≡ d
  with_four-3 e fits =
      let h : at + 3 < length (set (set (set xs at a) (at + 1) b) (at + 2) c) = simp length-set (omega arith) in
      get_or-set_same (set (set (set xs at a) (at + 1) b) (at + 2) c) (at + 3) d e h

  pub with_four-other : (i : ℕ) (e : A) → (i < at) ⊎ (at + 4 ≤ i) → get_or (with_four xs at a b c d) i e ≡ get_or xs i e
  with_four-other i e apart =
      let n3 : i ≢ at + 3 = omega arith in
      let n2 : i ≢ at + 2 = omega arith in
      let n1 : i ≢ at + 1 = omega arith in
      let n0 : i ≢ at = omega arith in
      get_or-set_other _ (at + 3) i d e n3 ∙ get_or-set_other _ (at + 2) i c e n2 ∙ get_or-set_other _ (at + 1) i b e n1 ∙ get_or-set_other xs at i a e n0

-- the four bytes of a number make it
digits : (number : ℕ) → number < 2 ^ 32
    → number % 256 + 256 * (number / 256 % 256) + 65536 * (number / 65536 % 256) + 16777216 * (number / 16777216) ≡ number
digits number small = omega arith

-- a byte that is laid over another, or isn't
over : (given : Bool) (b u : ℕ) → given ≡ true → (if given then b else u) ≡ b
over true b u e = refl
over false b u e = cc

under : (given : Bool) (b u : ℕ) → given ≡ false → (if given then b else u) ≡ u
under false b u e = refl
under true b u e = cc

module _ (n at number : ℕ) (below : List ℕ) (fits : at + 4 ≤ n) (long : length below ≡ n) where
  abbrev after : List ℕ
  after = laid (number_bytes n at number) (number_given n at) below

  bytes_long : length (number_bytes n at number) ≡ n
  bytes_long = length-with_four (replicate n 0) at _ _ _ _ ∙ length-replicate n 0

  given_long : length (number_given n at) ≡ n
  given_long = length-with_four (replicate n false) at _ _ _ _ ∙ length-replicate n false

  at_byte : (i : ℕ) → get_or after i 0 ≡ (if get_or (number_given n at) i false then get_or (number_bytes n at number) i 0 else get_or below i 0)
  at_byte i = get_or-laid (number_bytes n at number) (number_given n at) below i (given_long ∙ sym bytes_long) (long ∙ sym bytes_long)

  fits_bytes : at + 4 ≤ length {A = ℕ} (replicate n 0)
  fits_bytes = omega (arith, length-replicate {A = ℕ} n 0)

  fits_given : at + 4 ≤ length {A = Bool} (replicate n false)
  fits_given = omega (arith, length-replicate {A = Bool} n false)

  pub number_at-written : number < 2 ^ 32 → number_at after at ≡ number
  number_at-written small =
      let b0 : get_or after at 0 ≡ number % 256 =
      at_byte at ∙ over _ _ _ (with_four-0 (replicate n false) at true true true true false fits_given) ∙ with_four-0 (replicate n 0) at _ _ _ _ 0 fits_bytes in
      let b1 : get_or after (at + 1) 0 ≡ number / 256 % 256 =
      at_byte (at + 1) ∙ over _ _ _ (with_four-1 (replicate n false) at true true true true false fits_given) ∙ with_four-1 (replicate n 0) at _ _ _ _ 0 fits_bytes in
      let b2 : get_or after (at + 2) 0 ≡ number / 65536 % 256 =
      at_byte (at + 2) ∙ over _ _ _ (with_four-2 (replicate n false) at true true true true false fits_given) ∙ with_four-2 (replicate n 0) at _ _ _ _ 0 fits_bytes in
      let b3 : get_or after (at + 3) 0 ≡ number / 16777216 =
      at_byte (at + 3) ∙ over _ _ _ (with_four-3 (replicate n false) at true true true true false fits_given) ∙ with_four-3 (replicate n 0) at _ _ _ _ 0 fits_bytes in
      omega (arith, b0, b1, b2, b3, digits number small)

  same_byte : (i : ℕ) → (i < at) ⊎ (at + 4 ≤ i) → i < n → get_or after i 0 ≡ get_or below i 0
  same_byte i apart within =
      at_byte i ∙ under _ _ _ (with_four-other (replicate n false) at true true true true i false apart ∙ get_or-replicate n i false false within)

  same_number : (other : ℕ) → ((i : ℕ) → other ≤ i → i < other + 4 → get_or after i 0 ≡ get_or below i 0) → number_at after other ≡ number_at below other
  same_number other same =
      let b0 = same other (omega arith) (omega arith) in
      let b1 = same (other + 1) (omega arith) (omega arith) in
      let b2 = same (other + 2) (omega arith) (omega arith) in
      let b3 = same (other + 3) (omega arith) (omega arith) in
      omega (arith, b0, b1, b2, b3)

  pub number_at-other : (other : ℕ) → (other + 4 ≤ at) ⊎ (at + 4 ≤ other) → other + 4 ≤ n → number_at after other ≡ number_at below other
  number_at-other other (inl lower) within = same_number other (λ i from to. same_byte i (inl (omega arith)) (omega arith))
  number_at-other other (inr higher) within = same_number other (λ i from to. same_byte i (inr (omega arith)) (omega arith))
