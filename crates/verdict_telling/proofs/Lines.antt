-- Lines that offer an outcome, and ticks that are free.
use Rattle.std.proofs.Common.{◌≡◌, ℕ, zero, suc, ◌+◌, ◌≤◌, ◌&&◌, ◌||◌, ◌⊎◌, inl, inr, not, Bool, true, false, List, [], ◌∷◌, Option, Some, None, refl, sym, ap, ◌∙◌, arith}
use Rattle.std.{specs.List.list_any, specs.Prelude.nat_le, proofs.lemmas.Bool.{cases_eq, ne_eqb, le-leb}}
use Rattle.masked_bytes.proofs.Truth.{and_true, and_false}
use Rattle.check_telling.specs.{declared.facts.RowAt.RowAt, declared.grounds.Grounds.Grounds}
use Rattle.verdict_telling.specs.Offers.{Offer, Lost, has_free, is_none_of, is_within, line_if, lost_line}

-- one line and others
pub any_if : (p : Offer → Bool) (stands : Bool) (x : Offer) (rest : List Offer) → list_any p (line_if stands x rest) ≡ ((p x && stands) || list_any p rest)
any_if p true x rest = ap (λ b. b || list_any p rest) (sym (and_true (p x)))
any_if p false x rest = ap (λ b. b || list_any p rest) (sym (and_false (p x)))

pub skip : (p : Offer → Bool) (stands : Bool) (x : Offer) (rest : List Offer) → p x ≡ false → list_any p (line_if stands x rest) ≡ list_any p rest
skip p true x rest off = ap (λ b. b || list_any p rest) off
skip p false x rest off = refl

pub skip_lost : {n : ℕ} (g : Grounds n) (p : Offer → Bool) (cut : Option RowAt) (rest : List Offer) → ((t : ℕ) → p (Lost t) ≡ false)
    → list_any p (lost_line g cut rest) ≡ list_any p rest
skip_lost g p None rest off = refl
skip_lost g p (Some cut) rest off = skip p _ (Lost cut.tick) rest (off cut.tick)

-- ---- free ticks

-- one of some ticks passes, where another tick does that is one of them
or_true : (b : Bool) → (b || true) ≡ true
or_true true = refl
or_true false = refl

is_one : (p : ℕ → Bool) (w : ℕ) (ticks : List ℕ) → is_none_of w ticks ≡ false → p w ≡ true → list_any p ticks ≡ true
is_one p w [] there is = absurd (cc)
is_one p w (v ∷ ticks) there is = by (cases_eq w v) (λ none. is_one p w ticks none is)
  where
    by : (w ≡ v) ⊎ (w ≡ v → ⊥) → (is_none_of w ticks ≡ false → list_any p ticks ≡ true) → (p v || list_any p ticks) ≡ true
    by (inl same) ih = ap (λ b. b || list_any p ticks) (ap p (sym same) ∙ is)
    by (inr off) ih = ap (λ b. p v || b) (ih (ap (λ b. not b && is_none_of w ticks) (sym (ne_eqb w v off)) ∙ there)) ∙ or_true (p v)

pub within_is : (from to u : ℕ) (taken : List ℕ) → from ≤ u → u ≤ to → is_none_of u taken ≡ true → is_within from to taken u ≡ true
within_is from to u taken low high none =
    ap (λ b. (b && nat_le u to) && is_none_of u taken) (le-leb from u low) ∙ ap (λ b. b && is_none_of u taken) (le-leb u to high) ∙ none

-- where one of a range is free, one is that is the first or right behind one that isn't
pub free_found : (from to : ℕ) (taken : List ℕ) (k u : ℕ) → u ≡ from + k → u ≤ to → is_none_of u taken ≡ true → has_free from to taken ≡ true
free_found from to taken zero u e high none =
    let same : u ≡ from = omega (arith, e) in
    ap (λ b. b || list_any (λ v. is_within from to taken (v + 1)) taken)
    (within_is from to from taken (omega arith) (omega (arith, e, high)) (ap (λ v. is_none_of v taken) (sym same) ∙ none))
free_found from to taken (suc k) u e high none =
    by (is_none_of (from + k) taken) refl (free_found from to taken k (from + k) refl (omega (arith, e, high)))
  where
    next : is_within from to taken (from + k + 1) ≡ true
    next =
        let same : u ≡ from + k + 1 = omega (arith, e) in
        within_is from to (from + k + 1) taken (omega arith) (omega (arith, same, high)) (ap (λ v. is_none_of v taken) (sym same) ∙ none)

    by : (b : Bool) → is_none_of (from + k) taken ≡ b → (is_none_of (from + k) taken ≡ true → has_free from to taken ≡ true) → has_free from to taken ≡ true
    by true t ih = ih t
    by false f ih =
        ap (λ b. is_within from to taken from || b) (is_one (λ v. is_within from to taken (v + 1)) (from + k) taken f next) ∙ or_true (is_within from to taken from)

-- and then one is free
any_found : (p : ℕ → Bool) (ticks : List ℕ) → list_any p ticks ≡ true → (v : ℕ) × (p v ≡ true)
any_found p [] found = absurd (cc)
any_found p (v ∷ ticks) found = by (p v) refl found (any_found p ticks)
  where
    by : (b : Bool) → p v ≡ b → (b || list_any p ticks) ≡ true → (list_any p ticks ≡ true → (v : ℕ) × (p v ≡ true)) → (v : ℕ) × (p v ≡ true)
    by true is h ih = (v, is)
    by false is h ih = ih h

pub some_free : (from to : ℕ) (taken : List ℕ) → has_free from to taken ≡ true → (u : ℕ) × (is_within from to taken u ≡ true)
some_free from to taken free = by (is_within from to taken from) refl free
  where
    by : (b : Bool) → is_within from to taken from ≡ b → (b || list_any (λ v. is_within from to taken (v + 1)) taken) ≡ true → (u : ℕ) × (is_within from to taken u ≡ true)
    by true is h = (from, is)
    by false is h = let found = any_found (λ v. is_within from to taken (v + 1)) taken h in (found.0 + 1, found.1)
