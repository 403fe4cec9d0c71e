-- While a change stands the bank's own line write rests, and one that has halted is written no more.
use Rattle.std.proofs.Common.{arith, ◌≡◌, ℕ, Bool, true, false, List, [], ◌∷◌, Option, None, refl}
use Rattle.std.specs.Prelude.{is_some}
use Rattle.bank_shape.specs.{declared.BankShape.BankShape, declared.pace.Pace.Pace}
use Rattle.bank_shape.specs.declared.answer.Step.TheVariants as did
use Rattle.bank_shape.specs.declared.answer.Keep.TheVariants as keep
use Rattle.bank_model.specs.{Changes.{change_after, change_by, keeping_after, keeping_by, halted_after, halted_by}, Events.{Write, Read, Serve, Begin, Iterate, Cut}}
use Rattle.bank_model.specs.{History.in_progress, Lawful.{Lawful, MayCome}, Running.{busy_by, made_by}}
use Rattle.bank_model.specs.Timing.{Happens, Core, Regs, KeepBegin, KeepIterate, TimedEvent, core, core_of}

pub busy-none : (change : Option ℕ) (keeping busy : Bool) → change ≡ None → busy_by change keeping busy ≡ busy
busy-none change keeping busy is = grind arith

pub made-none : (change : Option ℕ) (rounds count : ℕ) → change ≡ None → made_by change rounds count ≡ count
made-none change rounds count is = grind arith

pub busy-some : (change : Option ℕ) (keeping busy : Bool) → is_some change ≡ true → busy_by change keeping busy ≡ keeping
busy-some change keeping busy is = grind arith

pub made-some : (change : Option ℕ) (rounds count : ℕ) → is_some change ≡ true → made_by change rounds count ≡ rounds
made-some change rounds count is = grind arith

module _ {n m : ℕ} (shape : BankShape) (pace : Pace) (e : ℕ) where
  -- a change comes with the end of a line write, and then none of the bank is in progress
  pub changed-idle : (xs : List (TimedEvent n m)) → Lawful shape pace e xs → is_some (change_after shape xs) ≡ true → in_progress (core xs) ≡ false
  changed-idle [] l some = refl
  changed-idle (x ∷ xs) l some = by x.happens l.0 (changed-idle xs l.1) some
    where
      more : (change : Option ℕ) → change ≡ None → is_some change ≡ true → true ≡ false
      more change is some = grind arith

      by : (h : Happens n) → MayCome shape pace e xs x h → (is_some (change_after shape xs) ≡ true → in_progress (core xs) ≡ false)
          → is_some (change_by shape (core xs) h (change_after shape xs)) ≡ true → in_progress (core_of h (core xs)) ≡ false
      by (Core (Begin did.More)) may ih some = more (change_after shape xs) may.on_time.2 some
      by (Core (Begin _)) may ih some = refl
      by (Core (Iterate did.More)) may ih some = more (change_after shape xs) may.on_time.2 some
      by (Core (Iterate _)) may ih some = refl
      by (Core (Cut tearing)) may ih some = refl
      by (Regs (KeepBegin keep.Done)) may ih some = absurd (cc)
      by (Regs (KeepIterate keep.Done)) may ih some = absurd (cc)
      by _ may ih some = ih some

  -- the writing of a change that has halted is not in progress
  pub halted-stops : (xs : List (TimedEvent n m)) → Lawful shape pace e xs → halted_after xs ≡ true → keeping_after xs ≡ false
  halted-stops [] l is = refl
  halted-stops (x ∷ xs) l is = by x.happens l.0 (halted-stops xs l.1) is
    where
      by : (h : Happens n) → MayCome shape pace e xs x h → (halted_after xs ≡ true → keeping_after xs ≡ false) → halted_by h (halted_after xs) ≡ true → keeping_by h (keeping_after xs) ≡ false
      by (Core (Write row line bytes given answer)) may ih is = ih is
      by (Core (Read row line answer)) may ih is = ih is
      by (Core (Serve answer)) may ih is = ih is
      by (Regs (KeepBegin answer)) may ih is = absurd (cc (may.may.1, is))
      by (Regs (KeepIterate keep.More)) may ih is = absurd (cc (may.may.0, ih is))
      by _ may ih is = refl
