-- How much each slot's own array line, and each control line, was pulsed, and how it has aged.
use Rattle.std.specs.Prelude.{ℕ, ◌+◌, ◌*◌, ◌<◌, ◌≤◌, List}
use Rattle.cell_rows.specs.Device.{ArrayState}
use Rattle.row_rules.specs.{Ticking.tries, declared.Row.Row, declared.Rules.Rules}
use Rattle.bank_shape.specs.{Shape.{slots_of, controls_of, control_line}, declared.BankShape.BankShape}
use Rattle.bank_model.specs.Aging.{Ages}
use Rattle.right_runs.specs.LineWrites.{most_works, most_each, most_kept}

-- what the pulses of each slot's own array line, and of each control line, are to the rows of a bank's table, and how each has aged
pub record KeepsLines {n m : ℕ} (shape : BankShape) (array : ArrayState n m) (rules : Rules) (rows : List (Row n)) : Type 0 where
  pub pulses : (slot : ℕ) → slot < slots_of shape
      → (array.line (shape.base + slot)).pulses ≤ most_each rules * most_works shape rows slot
  pub ages : (slot : ℕ) → slot < slots_of shape
      → Ages array.bounds (tries rules.policy * most_works shape rows slot) (array.line (shape.base + slot))
  pub controls : (item : ℕ) → item < controls_of shape
      → (array.line (control_line shape item)).pulses ≤ most_each rules * most_kept shape rows item
  pub control_ages : (item : ℕ) → item < controls_of shape
      → Ages array.bounds (tries rules.policy * most_kept shape rows item) (array.line (control_line shape item))
