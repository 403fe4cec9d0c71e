-- What a log of the array's senses shows of the rows and of the lines of a bank.
use Rattle.std.specs.Prelude.{nat_lt, ℕ, ◌+◌, ◌<◌, ◌≤◌, Bool, IsTrue, List, [], false}
use Rattle.cell_rows.specs.{Device.ArrayState, declared.array.Sense.Sense}
use Rattle.ecp_line.specs.Reading.{decode}
use Rattle.row_rules.specs.{Rows.each_row, declared.Row.Row, declared.Rules.Rules}
use Rattle.bank_shape.specs.{Shape.{slots_of, lines_in}, declared.BankShape.BankShape}
use Rattle.right_runs.specs.Logs.{has_sense, has_controls, is_line_fair_to}

module _ {n m : ℕ} (e : ℕ) (shape : BankShape) (array : ArrayState n m) where
  -- what the log shows of the rows and of the bank's lines
  pub record KeepsLogTo (off : Bool) (rules : Rules) (rows : List (Row n)) (log : List (Sense n m)) : Type 0 where
    pub sensed : IsTrue (each_row (has_sense (decode e) log) rows [])
    pub lines : (line : ℕ) → shape.base ≤ line → line < shape.base + lines_in shape
        → IsTrue (is_line_fair_to rules rows off log (nat_lt line (shape.base + slots_of shape + shape.spares)) line (array.line line).pulses)
    pub controls : IsTrue (each_row (has_controls shape log) rows [])

  -- the same where the power isn't off
  abbrev pub KeepsLog : Rules → List (Row n) → List (Sense n m) → Type 0
  KeepsLog = KeepsLogTo false
