-- What a bank with its times keeps of its history.
use Rattle.std.specs.Prelude.{◌≡◌, ℕ, ◌<◌, ◌≤◌, ◌==◌, IsFalse, if◌then◌else◌, List, [], ◌∷◌, map, Option, IfSome}
use Rattle.bank_shape.specs.{declared.BankShape.BankShape, declared.clock.Action.Action, declared.pace.Pace.Pace}
use Rattle.bank_model.specs.{Events.Write, History.queue, Running.{running_at, cancels_after}, Timing.{Happens, Core, TimedEvent, ends, core, last_tick}}

-- the tick at which the write of a row arrived
abbrev pub tick_by : {n : ℕ} → ℕ → Happens n → ℕ → ℕ → ℕ
tick_by row (Core (Write at line bytes given answer)) tick older = if at == row then tick else older
tick_by row happens tick older = older

abbrev pub tick_of_row : {n m : ℕ} → ℕ → List (TimedEvent n m) → ℕ
tick_of_row row [] = 0
tick_of_row row (x ∷ xs) = tick_by row x.happens x.tick (tick_of_row row xs)

-- the last event is no cancel, which would still miss its read
abbrev pub IsWhole : {n m : ℕ} → List (TimedEvent n m) → Type 0
IsWhole [] = Unit {0}
IsWhole (x ∷ xs) = IsFalse x.cancels

-- what a bank with its times keeps of a history: the tick, the action that runs, the arrival ticks of its queue, and the cancels.
-- Every action that has ended by now is in the list, and no cancel is left without its read
pub record IsTold {n m : ℕ} (shape : BankShape) (pace : Pace) (xs : List (TimedEvent n m)) (tick : ℕ) (action : Option Action) (ticks : List ℕ) (count : ℕ) : Type 0 where
  pub now : last_tick xs ≤ tick
  pub runs : action ≡ running_at shape pace xs tick
  pub to_come : IfSome action (λ a. tick < ends pace a)
  pub arrived : ticks ≡ map (λ entry. tick_of_row entry.row xs) (queue shape (core xs))
  pub cancels : count ≡ cancels_after xs
  pub whole : IsWhole xs
