-- The laws of a bank's log, one by one.
use Rattle.std.specs.Prelude.{◌≡◌, ℕ, ◌+◌, ◌<◌, ◌≤◌, nat_lt, Bool, IsTrue, List, [], ◌++◌, All}
use Rattle.cell_rows.specs.{Device.ArrayState, declared.array.Sense.Sense}
use Rattle.ecp_line.specs.Reading.{decode}
use Rattle.row_rules.specs.Rows.{each_row}
use Rattle.bank_shape.specs.{Shape.{slots_of, lines_in}, declared.BankShape.BankShape, declared.pace.Pace.Pace}
use Rattle.bank_model.specs.{Adding.senses_of, Lawful.Lawful, Timing.TimedEvent}
use Rattle.bank_laws.specs.{Laws.{LeavesArray, IsSized, log_of}, Outcomes.table_of, Resting.{IsStill, EndsIn}}
use Rattle.right_runs.specs.{Banks.rules_of, Logs.{has_sense, has_controls, is_line_fair_to}}

-- the senses of each of a bank's lines begin at no pulses, go on by at most one pulse, an iteration or broken off, and end with
-- the line's pulses; senses that show those may have been added
abbrev pub PulseStepsLaw : Type 0
PulseStepsLaw =
    (off : Bool) (n m e : ℕ) (shape : BankShape) (pace : Pace) (xs : List (TimedEvent n m)) (array : ArrayState n m) (log extra : List (Sense n m))
    → IsSized shape pace → Lawful shape pace e xs → EndsIn off shape pace xs → LeavesArray e shape xs array
    → log_of shape log ≡ senses_of xs ++ extra → All (λ s. s.pulses ≡ (array.line s.line).pulses) extra
    → (line : ℕ) → shape.base ≤ line → line < shape.base + lines_in shape
    → IsTrue (is_line_fair_to (rules_of e shape pace) (table_of shape xs) off log (nat_lt line (shape.base + slots_of shape + shape.spares)) line (array.line line).pulses)

-- each row that was stored or read has a sense of its place at its tick: a stored one reads as the newest bytes of its line as of
-- that row, and a read one gives the bytes that were read, the newest laid over it where the queue had them
abbrev pub SensedLaw : Type 0
SensedLaw =
    (n m e : ℕ) (shape : BankShape) (pace : Pace) (xs : List (TimedEvent n m)) (log extra : List (Sense n m))
    → IsSized shape pace → Lawful shape pace e xs → IsStill shape xs → log_of shape log ≡ senses_of xs ++ extra
    → IsTrue (each_row (has_sense (decode e) log) (table_of shape xs) [])

-- each cut has a sense of every control line at its tick
abbrev pub ControlsLaw : Type 0
ControlsLaw =
    (n m e : ℕ) (shape : BankShape) (pace : Pace) (xs : List (TimedEvent n m)) (log extra : List (Sense n m))
    → Lawful shape pace e xs → log_of shape log ≡ senses_of xs ++ extra → IsTrue (each_row (has_controls shape log) (table_of shape xs) [])

-- each sense of a bank's history is of one of its lines
abbrev pub WithinLaw : Type 0
WithinLaw =
    (n m e : ℕ) (shape : BankShape) (pace : Pace) (xs : List (TimedEvent n m)) → 1 ≤ shape.regions → 1 ≤ shape.lines → Lawful shape pace e xs
    → All (λ s. (shape.base ≤ s.line) × (s.line < shape.base + lines_in shape)) (senses_of xs)
