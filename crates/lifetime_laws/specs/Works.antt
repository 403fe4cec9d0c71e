-- How many line writes one array line takes by the rows, and how many pulses: a slot's own line, and a control line, which is written by
-- line writes of its own.
use Rattle.std.specs.Prelude.{ℕ, ◌+◌, ◌*◌, ◌<◌, ◌≤◌, List}
use Rattle.cell_rows.specs.Device.{ArrayState}
use Rattle.row_rules.specs.Ticking.{tries}
use Rattle.bank_shape.specs.{Shape.{slots_of, controls_from, controls_of, control_line}, declared.BankShape.BankShape, declared.pace.Pace.Pace}
use Rattle.bank_model.specs.{Aging.{Ages, AreAged, AreControlsAged}, Lawful.Lawful, Sensing.{most_steps, pulses_of}, Timing.{TimedEvent, core}, Works.{works_on, held_on}}
use Rattle.bank_laws.specs.{Laws.{IsSized, LeavesArray}, Outcomes.table_of, Resting.IsStill}
use Rattle.right_runs.specs.{Banks.rules_of, LineWrites.{most_works, most_each, most_kept}}

-- each array line but the control lines has at most so many pulses for each line write that ended on it, and those of the one in progress
abbrev pub PulsesOnLaw : Type 0
PulsesOnLaw =
    (n m e : ℕ) (shape : BankShape) (pace : Pace) (xs : List (TimedEvent n m)) (at : ℕ) → Lawful shape pace e xs → at < controls_from shape
    → pulses_of xs at ≤ most_steps e * works_on shape at (core xs) + held_on shape at (core xs)

-- the line writes of a slot's own array line, by the rows
abbrev pub WorksLaw : Type 0
WorksLaw =
    (n m e : ℕ) (shape : BankShape) (pace : Pace) (xs : List (TimedEvent n m)) (slot : ℕ)
    → IsSized shape pace → Lawful shape pace e xs → slot < slots_of shape
    → works_on shape (shape.base + slot) (core xs) ≤ tries pace.policy * most_works shape (table_of shape xs) slot

-- so the pulses of a slot's own array line, whichever of its cells are stuck
abbrev pub LinePulsesLaw : Type 0
LinePulsesLaw =
    (n m e : ℕ) (shape : BankShape) (pace : Pace) (xs : List (TimedEvent n m)) (array : ArrayState n m) (slot : ℕ)
    → IsSized shape pace → Lawful shape pace e xs → IsStill shape xs → LeavesArray e shape xs array → slot < slots_of shape
    → (array.line (shape.base + slot)).pulses ≤ most_each (rules_of e shape pace) * most_works shape (table_of shape xs) slot

-- and how it ages, in an array that has aged by the bank's events: as its first cell stuck, no cell of it had changed more than once in
-- each line write, as often as it may be begun
abbrev pub LineAgesLaw : Type 0
LineAgesLaw =
    (n m e : ℕ) (shape : BankShape) (pace : Pace) (xs : List (TimedEvent n m)) (array : ArrayState n m) (slot : ℕ)
    → IsSized shape pace → Lawful shape pace e xs → IsStill shape xs → AreAged shape (core xs) array → slot < slots_of shape
    → Ages array.bounds (tries pace.policy * most_works shape (table_of shape xs) slot) (array.line (shape.base + slot))

-- ---- control lines

-- the pulses of a control line
abbrev pub ControlPulsesLaw : Type 0
ControlPulsesLaw =
    (n m e : ℕ) (shape : BankShape) (pace : Pace) (xs : List (TimedEvent n m)) (array : ArrayState n m) (item : ℕ)
    → IsSized shape pace → Lawful shape pace e xs → IsStill shape xs → LeavesArray e shape xs array → item < controls_of shape
    → (array.line (control_line shape item)).pulses ≤ most_each (rules_of e shape pace) * most_kept shape (table_of shape xs) item

-- and how it ages: as its first cell stuck, no cell of it had changed more than once in each line write, as often as it may be begun
abbrev pub ControlAgesLaw : Type 0
ControlAgesLaw =
    (n m e : ℕ) (shape : BankShape) (pace : Pace) (xs : List (TimedEvent n m)) (array : ArrayState n m) (item : ℕ)
    → IsSized shape pace → Lawful shape pace e xs → IsStill shape xs → AreControlsAged shape xs array → item < controls_of shape
    → Ages array.bounds (tries pace.policy * most_kept shape (table_of shape xs) item) (array.line (control_line shape item))
