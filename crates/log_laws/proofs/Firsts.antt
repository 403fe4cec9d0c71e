-- The action that runs began no earlier than the last sense.
use Rattle.std.proofs.Common.{arith, ℕ, ◌≤◌, Bool, List, Option, Some, None, cond}
use Rattle.std.specs.Prelude.{IfSome, nat_lt}
use Rattle.bank_shape.specs.{declared.BankShape.BankShape, declared.clock.Action.Action, declared.clock.Doing.Doing}
use Rattle.bank_shape.specs.declared.answer.ReadAnswer.TheVariants as came
use Rattle.bank_model.specs.{Events.{BankEvent, Write, Read}, Running.{drops_begin, started, left}}

-- an action, if there is one, began at this tick or later
abbrev pub BeganFrom : ℕ → Option Action → Type 0
BeganFrom p action = IfSome action (λ a. p ≤ a.first)

pub started-from : (p : ℕ) (r : Option Action) (d : Option Doing) (last tick : ℕ) → BeganFrom p r → p ≤ last → BeganFrom p (started r d last tick)
started-from p (Some action) d last tick h le = h
started-from p None None last tick h le = tt
started-from p None (Some doing) last tick h le = by (nat_lt last tick)
  where
    by : (b : Bool) → BeganFrom p (cond b (Some (record { doing = doing; first = last })) None)
    by b = grind arith

pub left-from : {n : ℕ} (shape : BankShape) (h : List (BankEvent n)) (change : Option ℕ) (event : BankEvent n) (p : ℕ) (action : Option Action) → BeganFrom p action → BeganFrom p (left shape h change event action)
left-from shape h change (Write row line bytes given answer) p action b = b
left-from shape h change (Read row line came.Waiting) p action b = by (drops_begin shape h change line action)
  where
    by : (c : Bool) → BeganFrom p (cond c None action)
    by c = grind arith
left-from shape h change (Read row line _) p action b = b
left-from shape h change _ p action b = tt
