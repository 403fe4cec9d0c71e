-- What any tick between its rows finds of a bank.
use Rattle.std.specs.Prelude.{ℕ, ◌≤◌, ◌++◌, IsTrue, List, All}
use Rattle.row_rules.specs.Queueing.{has_room}
use Rattle.bank_shape.specs.{declared.BankShape.BankShape, declared.pace.Pace.Pace}
use Rattle.bank_model.specs.{Lawful.Lawful, Timing.{TimedEvent, last_tick}}
use Rattle.bank_laws.specs.{Laws.IsSized, Outcomes.rows_from, Resting.IsStill}
use Rattle.right_runs.specs.Banks.{rules_of}

-- at any tick between two of its events, a bank holds no more than it may
abbrev pub RoomLaw : (n m : ℕ) → Type 0
RoomLaw n m =
    (e : ℕ) (shape : BankShape) (pace : Pace) (xs later : List (TimedEvent n m)) (t : ℕ)
    → IsSized shape pace → Lawful shape pace e (later ++ xs) → IsStill shape (later ++ xs)
    → last_tick xs ≤ t → All (λ x. t ≤ x.tick) later
    → IsTrue (has_room (rules_of e shape pace) t (rows_from shape (later ++ xs) xs))
