-- The slots of a bank's lines and moves are the bank's, and a slot that was given a spare keeps one.
use Rattle.std.proofs.Common.{ℕ, ◌+◌, ◌*◌, ◌/◌, ◌%◌, ◌<◌, ◌≤◌, ◌==◌, Bool, List, [], ◌∷◌, ◌++◌, length, length-append, sym, subst, arith, cond}
use Rattle.std.proofs.lemmas.Nat.{mod_below, div_below}
use Rattle.bank_shape.{specs.Shape.{slots_of, slot_moved}, specs.declared.BankShape.BankShape, specs.declared.Work.Work, proofs.Sizes.slot_at-within}
use Rattle.bank_shape.specs.declared.answer.Step.TheVariants as did
use Rattle.start_gap.specs.Rotation.{place_after, gap_after}
use Rattle.spare_pool.{specs.Table.line_from, proofs.Lines.line_from-more}
use Rattle.bank_model.specs.{After.work_after, Answers.{IsDone, MayAll}, Events.{BankEvent, Begin, Iterate}, History.retired}
use Rattle.bank_model.specs.Timing.{Happens, Core, Regs, TimedEvent, core, core_of}

pub slot_moved-within : (shape : BankShape) (line moves : ℕ) → 1 ≤ shape.lines → line < shape.regions * shape.lines → slot_moved shape line moves < slots_of shape
slot_moved-within shape line moves some h =
    let place : place_after shape.lines (line % shape.lines) moves < shape.lines + 1 = mod_below (line % shape.lines + (moves + line % shape.lines) / shape.lines) (shape.lines + 1) (omega arith) in
    slot_at-within shape (line / shape.lines) (place_after shape.lines (line % shape.lines) moves) (div_below line shape.lines shape.regions (omega (arith, some)) h) (omega (arith, place))

pub gap-within : (n t : ℕ) → gap_after n t ≤ n
gap-within n t = omega arith

-- no begin retires or exhausts
pub begin-retires_none : {n : ℕ} (shape : BankShape) (h : List (BankEvent n)) (work : Work) (slot line : ℕ) → IsDone shape h work (did.Retired slot line) → ⊥
begin-retires_none shape h work slot line d = grind arith

pub begin-exhausts_none : {n : ℕ} (shape : BankShape) (h : List (BankEvent n)) (work : Work) → IsDone shape h work did.Exhausted → ⊥
begin-exhausts_none shape h work d = grind arith

module _ {n : ℕ} (shape : BankShape) where
  -- no more retirements than spares
  pub retired-few : (most : ℕ) (h : List (BankEvent n)) → MayAll shape most h → length (retired h) ≤ shape.spares
  retired-few most [] may = omega arith
  retired-few most (Begin (did.Retired slot line) ∷ h) may = absurd (begin-retires_none shape h (work_after shape h) slot line may.0.1)
  retired-few most (Iterate (did.Retired slot line) ∷ h) may = omega (arith, length-append (retired h) (slot ∷ []), may.0.1.2)
  retired-few most (_ ∷ h) may = retired-few most h may.1

  -- a slot that has a spare has one after any later event
  abbrev pub IsAway : List (BankEvent n) → ℕ → Type 0
  IsAway h slot = slots_of shape ≤ line_from (slots_of shape) slot (retired h) slot

  away-retired : (h : List (BankEvent n)) (at slot : ℕ) → IsAway h slot → slots_of shape ≤ line_from (slots_of shape) slot (retired h ++ at ∷ []) slot
  away-retired h at slot away = subst (λ k. slots_of shape ≤ k) (sym (line_from-more (slots_of shape) slot (retired h) at slot)) (by (at == slot))
    where
      by : (b : Bool) → slots_of shape ≤ cond b (slots_of shape + length (retired h)) (line_from (slots_of shape) slot (retired h) slot)
      by b = grind arith

  pub away-more : (event : BankEvent n) (h : List (BankEvent n)) (slot : ℕ) → IsAway h slot → IsAway (event ∷ h) slot
  away-more (Begin (did.Retired at line)) h slot away = away-retired h at slot away
  away-more (Iterate (did.Retired at line)) h slot away = away-retired h at slot away
  away-more _ h slot away = away

  pub away-later : {m : ℕ} (later zs : List (TimedEvent n m)) (slot : ℕ) → IsAway (core zs) slot → IsAway (core (later ++ zs)) slot
  away-later [] zs slot away = away
  away-later {m} (x ∷ later) zs slot away = by x.happens (away-later later zs slot away)
    where
      by : (h : Happens n) → IsAway (core (later ++ zs)) slot → IsAway (core_of h (core (later ++ zs))) slot
      by (Core event) away = away-more event (core (later ++ zs)) slot away
      by (Regs event) away = away
