-- How many cells have a property.
use Rattle.std.proofs.Common.{◌≡◌, ℕ, zero, suc, ◌+◌, ◌<◌, ◌≤◌, Bool, true, false, cond, refl, sym, ap, ◌∙◌, inl, inr, arith}
use Rattle.std.proofs.lemmas.Bool.{cases_eq, false≢true}
use Rattle.cell_rows.specs.Rows.{members}

counted-more : (a b : Bool) → (a ≡ true → b ≡ true) → cond a 1 0 ≤ cond b 1 0
counted-more true false h = absurd (false≢true (h refl))
counted-more _ _ h = omega arith

-- what has one property has the other
pub members-more : (p q : ℕ → Bool) (n : ℕ) → ((i : ℕ) → p i ≡ true → q i ≡ true) → members p n ≤ members q n
unfolding members
members-more p q zero h = omega arith
members-more p q (suc n) h = let e = counted-more (p n) (q n) (h n) in let t = members-more p q n h in omega arith

-- and one number has the other alone
pub members-strict : (p q : ℕ → Bool) (n s : ℕ) → ((i : ℕ) → p i ≡ true → q i ≡ true) → s < n → p s ≡ false → q s ≡ true → members p n + 1 ≤ members q n
unfolding members
members-strict p q zero s h below not_there there = absurd (omega arith)
members-strict p q (suc n) s h below not_there there =
    elim (cases_eq s n) as (λ _. members p n + cond (p n) 1 0 + 1 ≤ members q n + cond (q n) 1 0) [
      | inl e ↦
          let a : cond {A = ℕ} (p n) 1 0 ≡ 0 = ap (λ (b : Bool). cond b 1 0) (ap p (sym e) ∙ not_there) in
          let b : cond {A = ℕ} (q n) 1 0 ≡ 1 = ap (λ (b : Bool). cond b 1 0) (ap q (sym e) ∙ there) in
          let t : members p n ≤ members q n = members-more p q n h in omega arith
      | inr ne ↦
          let e = counted-more (p n) (q n) (h n) in
          let t = members-strict p q n s h (omega arith) not_there there in omega arith
    ]
