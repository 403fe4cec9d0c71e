-- Events with their times, the newest first, and the actions of a bank.
use Rattle.std.specs.Prelude.{ℕ, ◌||◌, Bool, true, false, List, [], ◌∷◌, Option, Some, None}
use Rattle.cell_rows.specs.declared.array.Sense.{Sense}
use Rattle.bank_shape.specs.{Acting.ends_with, declared.answer.Keep.Keep, declared.clock.Action.Action, declared.clock.Doing.Doing}
use Rattle.bank_shape.specs.{declared.clock.Doing.TheVariants.{Serving, Beginning, Iterating}, declared.pace.Pace.Pace}
use Rattle.bank_model.specs.{Events.BankEvent, History.Awaited}

-- what happens at the control lines of a bank: the writing of the change that stands begins, goes on by an iteration, or is broken off
-- by a read. A power cut of it is one with that of the bank
pub data Keeping : Type 0 where
  KeepBegin : (answer : Keep) → Keeping
  KeepIterate : (answer : Keep) → Keeping
  KeepCut : (tearing : Bool) → Keeping

-- what happens at a bank, or at its control lines
pub data Happens (n : ℕ) : Type 0 where
  Core : (event : BankEvent n) → Happens n
  Regs : (event : Keeping) → Happens n

-- an event with its tick, the first tick of its action, the array lines that it sensed, the one that it pulsed or tore, and whether it is a cut that a read made
pub record TimedEvent (n m : ℕ) : Type 0 where
  pub happens : Happens n
  pub tick : ℕ
  pub first : ℕ
  pub senses : List (Sense n m)
  pub pulsed : Option ℕ
  pub cancels : Bool

-- the tick at which an action ends
abbrev pub ends : Pace → Action → ℕ
ends pace action = ends_with pace.read pace.iter action

abbrev pub same_doing : Doing → Doing → Bool
same_doing Serving Serving = true
same_doing Beginning Beginning = true
same_doing Iterating Iterating = true
same_doing _ _ = false

abbrev pub is_doing : Doing → Option Action → Bool
is_doing doing None = false
is_doing doing (Some action) = same_doing doing action.doing

-- an action of a line write
abbrev pub is_writing : Option Action → Bool
is_writing action = is_doing Beginning action || is_doing Iterating action

abbrev pub is_empty : List Awaited → Bool
is_empty [] = true
is_empty (w ∷ ws) = false

-- the core events, with this one, if it is one
abbrev pub core_of : {n : ℕ} → Happens n → List (BankEvent n) → List (BankEvent n)
core_of (Core event) h = event ∷ h
core_of (Regs event) h = h

module _ {n m : ℕ} where
  -- the core events
  abbrev pub core : List (TimedEvent n m) → List (BankEvent n)
  core [] = []
  core (x ∷ xs) = core_of x.happens (core xs)

  abbrev pub last_tick : List (TimedEvent n m) → ℕ
  last_tick [] = 0
  last_tick (x ∷ xs) = x.tick
