-- That the control lines hold what a bank keeps, but for the change that stands.
use Rattle.std.specs.Prelude.{◌≡◌, ℕ, ◌+◌, ◌<◌, IfSome}
use Rattle.cell_rows.specs.Device.{ArrayState}
use Rattle.bank_shape.specs.{Shape.{controls_of, controls_from}, declared.BankShape.BankShape}
use Rattle.power_recovery.specs.Kept.{KeptState}
use Rattle.reg_lines.specs.Regs.{RegsState, AreHeld, values_held}
use Rattle.register_laws.specs.Items.{item_values}

-- the control lines are those of a bank of this shape
pub record AreControlsOf {n m e : ℕ} (shape : BankShape) (regs : RegsState n m e) : Type 0 where
  pub base : regs.base ≡ controls_from shape
  pub items : regs.items ≡ controls_of shape

-- each item has in what the bank keeps the values of the change, if one of it stands, and else those that its control line is read as;
-- every control line is sound, where the writing has halted the change's is worn, and a change is of one of the items
pub record Control {n m e : ℕ} (kept : KeptState n) (regs : RegsState n m e) (array : ArrayState n m) : Type 0 where
  pub own : AreControlsOf kept.shape regs
  pub held : AreHeld regs array
  pub item : IfSome regs.change (λ change. change.item < regs.items)
  pub values : (item : ℕ) → item < controls_of kept.shape → item_values kept item ≡ values_held regs array item

-- the control lines are as they were, whatever became of other lines of the array
pub record LeavesControls {n m e : ℕ} (regs : RegsState n m e) (before after : ArrayState n m) : Type 0 where
  pub lines : after.lines ≡ before.lines
  pub controls : (item : ℕ) → item < regs.items → after.line (regs.base + item) ≡ before.line (regs.base + item)
