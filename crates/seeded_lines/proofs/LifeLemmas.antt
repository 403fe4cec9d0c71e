-- Groups of eight cells that are drawn at once.
use Rattle.std.proofs.Common.{◌≡◌, ◌≢◌, ℕ, zero, suc, ◌+◌, ◌-◌, ◌*◌, ◌/◌, ◌%◌, ◌^◌, ◌<◌, ◌≤◌, Bool, true, false, cond, eqb, List, [], ◌∷◌, get_or, set, length, sym, subst, ◌∙◌, ap, inl, inr, arith, bit_or, get_or-set_same, get_or-set_other}
use Rattle.std.proofs.{lemmas.Bool.{cases_eq, cases_lt}, lemmas.Nat.{pow_pos, shl_whole}, lemmas.Nat.Bits.{bit_at_above, bit_at_cat_low, bit_at_cat_high}}
use Rattle.seeded_lines.specs.Planes.{bit_in, number_of}
use Rattle.cell_rows.proofs.{BlockLemmas.{shifted_low, shifted_high, or_none}, ByteLemmas.digit_or}

-- a binary digit has no bit but its lowest
one_apart : (a i : ℕ) → a < 2 → i % 8 ≢ 0 → bit_in a i ≡ false
one_apart a i small apart = ap (λ x. eqb x 1) (bit_at_above a 1 i small (omega arith))

cat_apart : (x y i : ℕ) → y < 2 → ((j : ℕ) → j % 8 ≢ 0 → bit_in x j ≡ false) → i % 8 ≢ 0 → bit_in (x * 2 ^ 8 + y) i ≡ false
cat_apart x y i small above apart =
    elim (cases_lt i 8) as (λ _. bit_in (x * 2 ^ 8 + y) i ≡ false) [
      | inl low ↦ ap (λ b. eqb b 1) (bit_at_cat_low x 8 y i low) ∙ one_apart y i small apart
      | inr high ↦ ap (λ b. eqb b 1) (bit_at_cat_high x 8 y i (omega arith) high) ∙ above (i - 8) (λ e. apart (omega arith))
    ]

three_apart : (a b c i : ℕ) → a < 2 → b < 2 → c < 2 → i % 8 ≢ 0 → bit_in ((c * 2 ^ 8 + b) * 2 ^ 8 + a) i ≡ false
three_apart a b c i small_a small_b small_c apart =
    cat_apart (c * 2 ^ 8 + b) a i small_a (λ j. cat_apart c b j small_b (λ k. one_apart c k small_c)) apart

-- the table of the numbers up to 7
abbrev spreads : List ℕ
spreads = 0 ∷ 1 ∷ 256 ∷ 257 ∷ 65536 ∷ 65537 ∷ 65792 ∷ 65793 ∷ []

pub spread_apart : (k i : ℕ) → k ≤ 7 → i % 8 ≢ 0 → bit_in (get_or spreads k 0) i ≡ false
spread_apart zero i few apart = three_apart 0 0 0 i (omega arith) (omega arith) (omega arith) apart
spread_apart (suc zero) i few apart = three_apart 1 0 0 i (omega arith) (omega arith) (omega arith) apart
spread_apart (suc (suc zero)) i few apart = three_apart 0 1 0 i (omega arith) (omega arith) (omega arith) apart
spread_apart (suc (suc (suc zero))) i few apart = three_apart 1 1 0 i (omega arith) (omega arith) (omega arith) apart
spread_apart (suc (suc (suc (suc zero)))) i few apart = three_apart 0 0 1 i (omega arith) (omega arith) (omega arith) apart
spread_apart (suc (suc (suc (suc (suc zero))))) i few apart = three_apart 1 0 1 i (omega arith) (omega arith) (omega arith) apart
spread_apart (suc (suc (suc (suc (suc (suc zero)))))) i few apart = three_apart 0 1 1 i (omega arith) (omega arith) (omega arith) apart
spread_apart (suc (suc (suc (suc (suc (suc (suc zero))))))) i few apart = three_apart 1 1 1 i (omega arith) (omega arith) (omega arith) apart
spread_apart (suc (suc (suc (suc (suc (suc (suc (suc k)))))))) i few apart = absurd (omega arith)

shifted_apart : (e i : ℕ) → e < 2 → i % 8 ≢ 0 → bit_in (e * 2 ^ 24) i ≡ false
shifted_apart e i small apart =
    elim (cases_lt i 24) as (λ _. bit_in (e * 2 ^ 24) i ≡ false) [
      | inl low ↦ shifted_low e 24 i low
      | inr high ↦ shifted_high e 24 i high (pow_pos 24) ∙ one_apart e (i - 24) small (λ h. apart (omega arith))
    ]

-- a life has bits at 0, 8, 16 and 24 alone
pub life_apart : (entry e i : ℕ) → e < 2 → bit_in entry i ≡ false → i % 8 ≢ 0 → bit_in (bit_or entry (e * 2 ^ 24 % 2 ^ 32)) i ≡ false
life_apart entry e i small none apart =
    let whole : e * 2 ^ 24 % 2 ^ 32 ≡ e * 2 ^ 24 = shl_whole e 1 24 32 small (omega arith) in
    ap (λ x. bit_in (bit_or entry x) i) whole ∙ digit_or entry (e * 2 ^ 24) i ∙ rw (none) (shifted_apart e i small apart)

-- a life is put into its place
pub life_here : (planes life index p : ℕ) → index < 8 → life < 2 ^ 25 → bit_in planes (8 * p + index) ≡ false
    → bit_in (bit_or planes (life * 2 ^ index % 2 ^ 32)) (8 * p + index) ≡ bit_in life (8 * p)
life_here planes life index p fits small none =
    let whole : life * 2 ^ index % 2 ^ 32 ≡ life * 2 ^ index = shl_whole life 25 index 32 small (omega arith) in
    let back : 8 * p + index - index ≡ 8 * p = omega arith in
    ap (λ x. bit_in (bit_or planes x) (8 * p + index)) whole ∙ digit_or planes (life * 2 ^ index) (8 * p + index)
    ∙ ap (λ b. cond b true (bit_in (life * 2 ^ index) (8 * p + index))) none
    ∙ shifted_high life index (8 * p + index) (omega arith) (pow_pos index) ∙ ap (bit_in life) back

pub life_kept : (planes life index i : ℕ) → index < 8 → life < 2 ^ 25 → ((j : ℕ) → j % 8 ≢ 0 → bit_in life j ≡ false)
    → i % 8 ≢ index → bit_in (bit_or planes (life * 2 ^ index % 2 ^ 32)) i ≡ bit_in planes i
life_kept planes life index i fits small apart other =
    let whole : life * 2 ^ index % 2 ^ 32 ≡ life * 2 ^ index = shl_whole life 25 index 32 small (omega arith) in
    ap (λ x. bit_in (bit_or planes x) i) whole ∙ digit_or planes (life * 2 ^ index) i
    ∙ ap (cond (bit_in planes i) true)
    (elim (cases_lt i index) as (λ _. bit_in (life * 2 ^ index) i ≡ false) [
      | inl low ↦ shifted_low life index i low
      | inr high ↦ shifted_high life index i high (pow_pos index) ∙ apart (i - index) (λ e. other (omega arith))
    ])
    ∙ or_none (bit_in planes i)

-- the lives of one cell more
pub limits_more : (planes new life index : ℕ) (f : ℕ → ℕ) → index < 8
    → ((p : ℕ) → bit_in planes (8 * p + index) ≡ false → bit_in new (8 * p + index) ≡ bit_in life (8 * p))
    → ((i : ℕ) → i % 8 ≢ index → bit_in new i ≡ bit_in planes i)
    → ((i : ℕ) → index ≤ i % 8 → bit_in planes i ≡ false)
    → number_of (bit_in life 0) (bit_in life 8) (bit_in life 16) ≡ f index
    → ((j : ℕ) → j < index → number_of (bit_in planes j) (bit_in planes (8 + j)) (bit_in planes (16 + j)) ≡ f j)
    → (j : ℕ) → j < index + 1 → number_of (bit_in new j) (bit_in new (8 + j)) (bit_in new (16 + j)) ≡ f j
limits_more planes new life index f fits here kept none is before j h =
    elim (cases_eq j index) as (λ _. number_of (bit_in new j) (bit_in new (8 + j)) (bit_in new (16 + j)) ≡ f j) [
      | inl same ↦
          let number : 8 * 0 + index ≡ index = omega arith in
          let low : bit_in new index ≡ bit_in life 0 = ap (bit_in new) (sym number) ∙ here 0 (none (8 * 0 + index) (omega arith)) in
          let middle : bit_in new (8 + index) ≡ bit_in life 8 = here 1 (none (8 * 1 + index) (omega arith)) in
          let high : bit_in new (16 + index) ≡ bit_in life 16 = here 2 (none (8 * 2 + index) (omega arith)) in
          rw (same, low, middle, high) is
      | inr apart ↦
          rw (kept j (omega arith), kept (8 + j) (omega arith), kept (16 + j) (omega arith)) (before j (omega arith))
    ]

pub ends_more : (planes new life index : ℕ) (f : ℕ → Bool) → index < 8
    → ((p : ℕ) → bit_in planes (8 * p + index) ≡ false → bit_in new (8 * p + index) ≡ bit_in life (8 * p))
    → ((i : ℕ) → i % 8 ≢ index → bit_in new i ≡ bit_in planes i)
    → ((i : ℕ) → index ≤ i % 8 → bit_in planes i ≡ false)
    → bit_in life 24 ≡ f index
    → ((j : ℕ) → j < index → bit_in planes (24 + j) ≡ f j)
    → (j : ℕ) → j < index + 1 → bit_in new (24 + j) ≡ f j
ends_more planes new life index f fits here kept none is before j h =
    elim (cases_eq j index) as (λ _. bit_in new (24 + j) ≡ f j) [
      | inl same ↦ rw same (here 3 (none (8 * 3 + index) (omega arith)) ∙ is)
      | inr apart ↦ kept (24 + j) (omega arith) ∙ before j (omega arith)
    ]

-- one number more of a list
pub counts_more : (xs : List ℕ) (f : ℕ → ℕ) (index value : ℕ) → index < length xs → value ≡ f index
    → ((j : ℕ) → j < index → get_or xs j 0 ≡ f j) → (j : ℕ) → j < index + 1 → get_or (set xs index value) j 0 ≡ f j
counts_more xs f index value within is before j h =
    elim (cases_eq j index) as (λ _. get_or (set xs index value) j 0 ≡ f j) [
      | inl same ↦ rw same (get_or-set_same xs index value 0 within ∙ is)
      | inr apart ↦ get_or-set_other xs index j value 0 (λ e. apart (omega arith)) ∙ before j (omega arith)
    ]

-- one group more
pub group_more : {X : Type 0} (old new f : ℕ → X) (group : ℕ) → ((i : ℕ) → i < 8 → new (8 * group + i) ≡ f (8 * group + i))
    → ((n : ℕ) → n / 8 ≢ group → new n ≡ old n) → ((n : ℕ) → n < 8 * group → old n ≡ f n) → (n : ℕ) → n < 8 * (group + 1) → new n ≡ f n
group_more {X} old new f group here others before n h =
    elim (cases_lt n (8 * group)) as (λ _. new n ≡ f n) [
      | inl low ↦ others n (λ e. absurd (omega arith)) ∙ before n low
      | inr high ↦
          let number : 8 * group + (n - 8 * group) ≡ n = omega arith in
          subst (λ k. new k ≡ f k) number (here (n - 8 * group) (omega arith))
    ]
