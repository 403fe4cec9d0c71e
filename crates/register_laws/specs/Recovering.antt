-- That what a bank kept can be read back from the control lines.
use Rattle.std.specs.Prelude.{◌≡◌, ℕ, ◌+◌, ◌<◌, ◌≤◌, None}
use Rattle.cell_rows.specs.Device.{ArrayState}
use Rattle.bank_shape.specs.{Shape.controls_of, declared.Home.TheVariants.Array}
use Rattle.power_recovery.specs.{Kept.{KeptState, IsKept}, Restoring.stripped_kept}
use Rattle.reg_lines.specs.Regs.{RegsState, values_held}
use Rattle.register_laws.specs.{Control.AreControlsOf, Items.item_values}

-- the control lines, whoever wrote them, and the change hold what was kept: the lines are those of its shape and stand in the array, and
-- each item has the values of the change, if one of it stands, and else those that its control line is read as
pub record IsOnLines {n m e : ℕ} (kept : KeptState n) (regs : RegsState n m e) (array : ArrayState n m) : Type 0 where
  pub home : kept.shape.home ≡ Array
  pub in_range : IsKept kept
  pub own : AreControlsOf kept.shape regs
  pub exist : regs.base + regs.items ≤ array.lines
  pub values : (item : ℕ) → item < controls_of kept.shape → item_values kept item ≡ values_held regs array item

-- what was kept can be read back: what is kept now is that, stripped, and the control lines and the change hold it
pub record IsReadable {n m e : ℕ} (kept now : KeptState n) (regs : RegsState n m e) (array : ArrayState n m) : Type 0 where
  pub stripped : now ≡ stripped_kept kept
  pub idle : regs.writer ≡ None
  pub lines : IsOnLines kept regs array

-- the control lines and the change determine what was kept
abbrev pub DeterminedLaw : Type 0
DeterminedLaw =
    (n m e : ℕ) (kept other now : KeptState n) (regs : RegsState n m e) (array : ArrayState n m)
    → IsReadable kept now regs array → IsReadable other now regs array → kept ≡ other
