-- The laws of the places of a bank and of its wear, one by one.
use Rattle.std.specs.Prelude.{ℕ, ◌≤◌, Bool, IsTrue, List, []}
use Rattle.cell_rows.specs.Device.{ArrayState}
use Rattle.row_rules.specs.Rows.{each_row}
use Rattle.bank_shape.specs.{Shape.lines_in, declared.BankShape.BankShape, declared.pace.Pace.Pace}
use Rattle.bank_model.specs.{History.moved_in, Lawful.Lawful, Timing.{TimedEvent, core}}
use Rattle.bank_laws.specs.{Laws.{IsSized, LeavesArray}, Outcomes.table_of, Resting.{IsStill, EndsIn}}
use Rattle.ecp_line.specs.ArrayLines.{is_worn_at}
use Rattle.right_runs.specs.{Banks.rules_of, Ends.is_moved_to, KeepsPlaces.{most_pulses, pulses_among}, Places.is_placed, WornLines.{is_wear_true_to, is_taken_to}}

-- each row carries the array line where its line stood at its tick, or a spare where that line is worn in the end
abbrev pub PlacedLaw : Type 0
PlacedLaw =
    (n m e : ℕ) (shape : BankShape) (pace : Pace) (xs : List (TimedEvent n m)) (array : ArrayState n m)
    → IsSized shape pace → Lawful shape pace e xs → LeavesArray e shape xs array
    → IsTrue (each_row (is_placed shape (is_worn_at e array)) (table_of shape xs) [])

-- a refused write, and one that stands in the queue in the end, say that more lines are worn than there are spares
abbrev pub WornLaw : Type 0
WornLaw =
    (off : Bool) (n m e : ℕ) (shape : BankShape) (pace : Pace) (xs : List (TimedEvent n m)) (array : ArrayState n m)
    → IsSized shape pace → Lawful shape pace e xs → EndsIn off shape pace xs → LeavesArray e shape xs array
    → IsTrue (each_row (is_wear_true_to off shape (is_worn_at e array)) (table_of shape xs) [])

-- in a bank that is not worn out a write that finds room is accepted, and leaves the queue again
abbrev pub TakenLaw : Type 0
TakenLaw =
    (off : Bool) (n m e : ℕ) (shape : BankShape) (pace : Pace) (xs : List (TimedEvent n m)) (array : ArrayState n m)
    → IsSized shape pace → Lawful shape pace e xs → EndsIn off shape pace xs → LeavesArray e shape xs array
    → IsTrue (each_row (is_taken_to off (rules_of e shape pace) shape (is_worn_at e array)) (table_of shape xs) [])

-- the lines of a bank have no more pulses than its stores, gap moves, retirements and cuts account for
abbrev pub PulsesLaw : Type 0
PulsesLaw =
    (n m e : ℕ) (shape : BankShape) (pace : Pace) (xs : List (TimedEvent n m)) (array : ArrayState n m)
    → IsSized shape pace → Lawful shape pace e xs → IsStill shape xs → LeavesArray e shape xs array
    → pulses_among (λ line. (array.line line).pulses) shape.base (lines_in shape) ≤ most_pulses (rules_of e shape pace) (table_of shape xs)

-- each region's gap has moved once for so many stores; or once less, where the bank is worn out before a move that is due
abbrev pub MovedLaw : Type 0
MovedLaw =
    (off : Bool) (n m e : ℕ) (shape : BankShape) (pace : Pace) (xs : List (TimedEvent n m)) (array : ArrayState n m) (region : ℕ)
    → IsSized shape pace → Lawful shape pace e xs → EndsIn off shape pace xs → LeavesArray e shape xs array
    → IsTrue (is_moved_to off shape (is_worn_at e array) (table_of shape xs) region (moved_in shape.lines (core xs) region))
