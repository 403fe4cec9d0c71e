-- Families of cells that follow a rule, cell by cell and group by group.
use Rattle.std.proofs.Common.{◌≡◌, ◌≢◌, ℕ, ◌+◌, ◌-◌, ◌*◌, ◌/◌, ◌<◌, ◌≤◌, Bool, false, cond, refl, subst, ◌∙◌, inl, inr, arith}
use Rattle.std.proofs.lemmas.Bool.{cases_lt}
use Rattle.seeded_lines.specs.Follows.{Follows, FollowsIn}

-- no group yet
pub followed_none : {X : Type 0} (at_cell : ℕ) (mask : ℕ → Bool) (rule : ℕ → X → X) (old : ℕ → X) → FollowsIn at_cell at_cell mask rule old old
followed_none {X} at_cell mask rule old = record { inside = λ n from to. absurd (omega (arith, from, to)); below = λ n h. refl; above = λ n h. refl }

-- one group more
pub followed_group : {X : Type 0} (from mid_at to : ℕ) (mask : ℕ → Bool) (rule : ℕ → X → X) (old mid new : ℕ → X)
    → FollowsIn from mid_at mask rule old mid → FollowsIn mid_at to mask rule mid new → from ≤ mid_at → mid_at ≤ to
    → FollowsIn from to mask rule old new
followed_group {X} from mid_at to mask rule old mid new first second one two = record {
  inside = λ n low_n high_n.
      elim (cases_lt n mid_at) as (λ _. new n ≡ cond (mask n) (rule n (old n)) (old n)) [
        | inl low ↦ second.below n low ∙ first.inside n low_n low
        | inr high ↦ rw (← first.above n high) (second.inside n high high_n)
      ];
  below = λ n h. second.below n (omega arith) ∙ first.below n h;
  above = λ n h. second.above n h ∙ first.above n (omega arith);
}

-- one group more without a masked cell
pub followed_clear : {X : Type 0} (from mid_at to : ℕ) (mask : ℕ → Bool) (rule : ℕ → X → X) (old new : ℕ → X)
    → FollowsIn from mid_at mask rule old new → mid_at ≤ to → ((n : ℕ) → mid_at ≤ n → n < to → mask n ≡ false)
    → FollowsIn from to mask rule old new
followed_clear {X} from mid_at to mask rule old new first two clear = record {
  inside = λ n low_n high_n.
      elim (cases_lt n mid_at) as (λ _. new n ≡ cond (mask n) (rule n (old n)) (old n)) [
        | inl low ↦ first.inside n low_n low
        | inr high ↦ rw (clear n high high_n) (first.above n high)
      ];
  below = first.below;
  above = λ n h. first.above n (omega arith);
}

-- all cells, where no cell is masked past the end
pub followed_all : {X : Type 0} (top : ℕ) (mask : ℕ → Bool) (rule : ℕ → X → X) (old new : ℕ → X)
    → FollowsIn 0 top mask rule old new → ((n : ℕ) → top ≤ n → mask n ≡ false) → Follows mask rule old new
followed_all {X} top mask rule old new all past n =
    elim (cases_lt n top) as (λ _. new n ≡ cond (mask n) (rule n (old n)) (old n)) [
      | inl low ↦ all.inside n (omega arith) low
      | inr high ↦ rw (past n high) (all.above n high)
    ]

-- a block, of which each cell was done, and no other
pub followed_block : {X : Type 0} (block : ℕ) (mask : ℕ → Bool) (rule : ℕ → X → X) (old new : ℕ → X)
    → ((i : ℕ) → i < 64 → new (64 * block + i) ≡ cond (mask (64 * block + i)) (rule (64 * block + i) (old (64 * block + i))) (old (64 * block + i)))
    → ((n : ℕ) → n / 64 ≢ block → new n ≡ old n) → FollowsIn (64 * block) (64 * block + 64) mask rule old new
followed_block {X} block mask rule old new here others = record {
  inside = λ n from to.
      let is : 64 * block + (n - 64 * block) ≡ n = omega arith in
      subst (λ k. new k ≡ cond (mask k) (rule k (old k)) (old k)) is (here (n - 64 * block) (omega arith));
  below = λ n h. others n (λ e. omega arith);
  above = λ n h. others n (λ e. omega arith);
}
