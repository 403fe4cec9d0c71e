-- Cell by cell, what is driven and what changes.
use Rattle.std.proofs.Common.{◌≡◌, ◌≢◌, ℕ, zero, suc, ◌+◌, ◌*◌, ◌≤◌, ◌&&◌, ◌⊎◌, Bool, true, false, not, cond, inl, inr, refl, sym, ap, ◌∙◌, arith, true≢false}
use Rattle.cell_rows.specs.{Device.{CellBounds, CellPulsed, DeviceStep, LineState, TornStep}, Rows.{cell, members}, declared.row.Cells.Cells}
use Rattle.energy_laws.specs.Changes.{ChangedLaw, DrivenLaw, WrongLaw}

abbrev as_one : Bool → ℕ
as_one b = cond b 1 0

-- as many have the one property as the other, where the same numbers have both
members-as : (one other : ℕ → Bool) (n : ℕ) → ((k : ℕ) → one k ≡ other k) → members one n ≡ members other n
unfolding members
members-as one other zero same = refl
members-as one other (suc n) same =
    let before : members one n ≡ members other n = members-as one other n same in
    let last : as_one (one n) ≡ as_one (other n) = ap as_one (same n) in
    omega (arith, before, last)

-- no more have the one property, where all that have it have the other
members-in : (one other : ℕ → Bool) (n : ℕ) → ((k : ℕ) → one k ≡ true → other k ≡ true) → members one n ≤ members other n
unfolding members
members-in one other zero within = omega arith
members-in one other (suc n) within =
    let before : members one n ≤ members other n = members-in one other n within in
    let last : as_one (one n) ≤ as_one (other n) = by (one n) (other n) (within n) in
    omega (arith, before, last)
  where
    by : (a b : Bool) → (a ≡ true → b ≡ true) → as_one a ≤ as_one b
    by true true is = omega arith
    by true false is = absurd (true≢false (sym (is refl)))
    by false b is = omega arith

-- a cell that is driven to 1 holds 0, and one that is driven to 0 holds 1
up : (mask want held : Bool) → (mask ≡ true → held ≢ want) → mask && want ≡ (mask && want && not held)
up true true true differs = absurd (differs refl refl)
up true true false differs = refl
up true false held differs = refl
up false want held differs = refl

down : (mask want held : Bool) → (mask ≡ true → held ≢ want) → mask && not want ≡ (mask && not want && held)
down true true held differs = refl
down true false true differs = refl
down true false false differs = absurd (differs refl refl)
down false want held differs = refl

pub wrong_law : WrongLaw
wrong_law B M mask want held pulse = (
  members-as (λ n. cell mask n && cell want n) (λ n. cell mask n && cell want n && not (cell held n)) (8 * (B + M))
      (λ n. up (cell mask n) (cell want n) (cell held n) (pulse.differs n)),
  members-as (λ n. cell mask n && not (cell want n)) (λ n. cell mask n && not (cell want n) && cell held n) (8 * (B + M))
      (λ n. down (cell mask n) (cell want n) (cell held n) (pulse.differs n)),
)

-- a cell that goes to 1 was driven to it, whatever became of it, and one that goes to 0
went-up : (mask want old new : Bool) → (mask ≡ true → old ≢ want) → (mask ≡ false → new ≡ old) → new && not old ≡ true → mask && want ≡ true
went-up true true old new differs kept gone = refl
went-up true false true true differs kept gone = gone
went-up true false true false differs kept gone = gone
went-up true false false new differs kept gone = absurd (differs refl refl)
went-up false want true true differs kept gone = gone
went-up false want true false differs kept gone = gone
went-up false want false true differs kept gone = sym (kept refl)
went-up false want false false differs kept gone = gone

went-down : (mask want old new : Bool) → (mask ≡ true → old ≢ want) → (mask ≡ false → new ≡ old) → old && not new ≡ true → mask && not want ≡ true
went-down true false old new differs kept gone = refl
went-down true true true new differs kept gone = absurd (differs refl refl)
went-down true true false new differs kept gone = gone
went-down false want true true differs kept gone = gone
went-down false want true false differs kept gone = kept refl
went-down false want false new differs kept gone = gone

unmasked : {B M : ℕ} (bounds : CellBounds) (mask want : Cells B M) (old new : LineState B M) → DeviceStep bounds mask want old new ⊎ TornStep bounds mask old new
    → (n : ℕ) → cell mask n ≡ false → cell new.held n ≡ cell old.held n
unmasked bounds mask want old new (inl step) n out = (step.unmasked n out).value
unmasked bounds mask want old new (inr step) n out = (step.unmasked n out).value

pub changed_law : ChangedLaw
changed_law B M bounds mask want old new pulse step = (
  members-in (λ n. cell new.held n && not (cell old.held n)) (λ n. cell mask n && cell want n) (8 * (B + M))
      (λ n. went-up (cell mask n) (cell want n) (cell old.held n) (cell new.held n) (pulse.differs n) (unmasked bounds mask want old new step n)),
  members-in (λ n. cell old.held n && not (cell new.held n)) (λ n. cell mask n && not (cell want n)) (8 * (B + M))
      (λ n. went-down (cell mask n) (cell want n) (cell old.held n) (cell new.held n) (pulse.differs n) (unmasked bounds mask want old new step n)),
)

-- a masked cell takes its wanted value
takes : {B M : ℕ} (bounds : CellBounds) (mask want : Cells B M) (old new : LineState B M) → DeviceStep bounds mask want old new → bounds.misses ≡ 0
    → ((n : ℕ) → new.stuck n ≡ false) → (n : ℕ) → cell mask n ≡ true → cell new.held n ≡ cell want n
takes {B} {M} bounds mask want old new step never live n masked = by (old.stuck n) refl
  where
    pulsed : CellPulsed bounds want old new n → cell new.held n ≡ cell want n
    pulsed (inl is) = is.1
    pulsed (inr (inl missed)) = absurd (omega (arith, missed.2, missed.3, never))
    pulsed (inr (inr stuck)) = absurd (true≢false (sym stuck.0 ∙ live n))

    by : (b : Bool) → old.stuck n ≡ b → cell new.held n ≡ cell want n
    by true is = absurd (true≢false (sym (step.stuck n is).0 ∙ live n))
    by false is = pulsed (step.live n masked is)

-- so it changes, and no other does
goes-up : (mask want old new : Bool) → (mask ≡ true → old ≢ want) → (mask ≡ false → new ≡ old) → (mask ≡ true → new ≡ want) → new && not old ≡ (mask && want)
goes-up true true true new differs kept takes = absurd (differs refl refl)
goes-up true true false true differs kept takes = refl
goes-up true true false false differs kept takes = takes refl
goes-up true false old true differs kept takes = absurd (true≢false (takes refl))
goes-up true false old false differs kept takes = refl
goes-up false want true true differs kept takes = refl
goes-up false want true false differs kept takes = refl
goes-up false want false true differs kept takes = kept refl
goes-up false want false false differs kept takes = refl

goes-down : (mask want old new : Bool) → (mask ≡ true → old ≢ want) → (mask ≡ false → new ≡ old) → (mask ≡ true → new ≡ want) → old && not new ≡ (mask && not want)
goes-down true true true new differs kept takes = absurd (differs refl refl)
goes-down true true false new differs kept takes = refl
goes-down true false true true differs kept takes = sym (takes refl)
goes-down true false true false differs kept takes = refl
goes-down true false false new differs kept takes = absurd (differs refl refl)
goes-down false want true true differs kept takes = refl
goes-down false want true false differs kept takes = sym (kept refl)
goes-down false want false new differs kept takes = refl

pub driven_law : DrivenLaw
driven_law B M bounds mask want old new pulse step never live = (
  members-as (λ n. cell new.held n && not (cell old.held n)) (λ n. cell mask n && cell want n) (8 * (B + M))
      (λ n. goes-up (cell mask n) (cell want n) (cell old.held n) (cell new.held n) (pulse.differs n) (unmasked bounds mask want old new (inl step) n) (takes bounds mask want old new step never live n)),
  members-as (λ n. cell old.held n && not (cell new.held n)) (λ n. cell mask n && not (cell want n)) (8 * (B + M))
      (λ n. goes-down (cell mask n) (cell want n) (cell old.held n) (cell new.held n) (pulse.differs n) (unmasked bounds mask want old new (inl step) n) (takes bounds mask want old new step never live n)),
)
