-- How the ticks of a lawful history go on.
use Rattle.std.specs.Prelude.{ℕ, ◌<◌, ◌≤◌, Bool, true, false, IsTrue, List, ◌∷◌, All}
use Rattle.bank_shape.specs.{declared.BankShape.BankShape, declared.pace.Pace.Pace}
use Rattle.bank_model.specs.{Events.{Write, Read, Serve, Begin, Iterate, Cut}, Lawful.Lawful, Timing.{Happens, Core, Regs, KeepBegin, KeepIterate, KeepCut, TimedEvent}}

-- the end of an action: a serve, a begin or an iteration
abbrev pub ends_action : {n : ℕ} → Happens n → Bool
ends_action (Core (Write row line bytes given answer)) = false
ends_action (Core (Read row line answer)) = false
ends_action (Core (Serve answer)) = true
ends_action (Core (Begin answer)) = true
ends_action (Core (Iterate answer)) = true
ends_action (Core (Cut tearing)) = false
ends_action (Regs (KeepBegin answer)) = true
ends_action (Regs (KeepIterate answer)) = true
ends_action (Regs (KeepCut tearing)) = false

-- an event comes at no tick below an earlier one's, and an action ends above every earlier event
pub record ComesAfter {n m : ℕ} (x : TimedEvent n m) (xs : List (TimedEvent n m)) : Type 0 where
  pub not_before : All (λ y. y.tick ≤ x.tick) xs
  pub ends_above : IsTrue (ends_action x.happens) → All (λ y. y.tick < x.tick) xs

-- so it is in a lawful history, where each action takes at least one tick
abbrev pub TickLaw : Type 0
TickLaw =
    (n m e : ℕ) (shape : BankShape) (pace : Pace) (x : TimedEvent n m) (xs : List (TimedEvent n m))
    → 1 ≤ pace.read → 1 ≤ pace.iter → Lawful shape pace e (x ∷ xs) → ComesAfter x xs
