-- How a bank's history may end.
use Rattle.std.specs.Prelude.{◌≡◌, ℕ, Bool, true, false, IsFalse, List, [], ◌∷◌}
use Rattle.bank_shape.specs.{declared.BankShape.BankShape, declared.pace.Pace.Pace}
use Rattle.bank_model.specs.{Events.Cut, History.waits, Lawful.IsIdle, Running.busy_after, Timing.{Core, TimedEvent, core}}

-- no read waits, and no line write is in progress: so it is where nothing is left to do, and just behind a power cut
pub record IsStill {n m : ℕ} (shape : BankShape) (xs : List (TimedEvent n m)) : Type 0 where
  pub unawaited : waits shape (core xs) ≡ []
  pub rests : busy_after shape xs ≡ false

-- the power is off: the last event is a power cut
abbrev pub IsCutOff : {n m : ℕ} → List (TimedEvent n m) → Type 0
IsCutOff [] = ⊥
IsCutOff (x ∷ xs) = (tearing : Bool) × (x.happens ≡ Core (Cut tearing)) × IsFalse x.cancels

-- a history ends so: with nothing left to do; or, where the power stays off, with a power cut
abbrev pub EndsIn : {n m : ℕ} → Bool → BankShape → Pace → List (TimedEvent n m) → Type 0
EndsIn false shape pace xs = IsIdle shape pace xs
EndsIn true shape pace xs = IsCutOff xs
