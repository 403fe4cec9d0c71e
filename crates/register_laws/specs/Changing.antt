-- Which item an event of a bank changes, and that the control lines go on to hold what the bank keeps.
use Rattle.std.specs.Prelude.{◌≡◌, ◌≢◌, ℕ, ◌+◌, ◌/◌, ◌<◌, Some, None, length}
use Rattle.masked_bytes.specs.Entries.{head_line}
use Rattle.cell_rows.specs.Device.{ArrayState}
use Rattle.spare_pool.specs.Table.{used_by}
use Rattle.bank_shape.specs.Shape.{controls_of}
use Rattle.power_recovery.specs.{Events.{stored_kept, moved_kept, retired_kept, exhausted_kept}, Kept.{KeptState, IsKept, due_region}}
use Rattle.reg_lines.specs.{Keeping.with_change, Regs.RegsState, declared.Change.Change}
use Rattle.register_laws.specs.{Control.{Control, LeavesControls}, Items.{items_of, item_values}}

-- no item but this one has other values, and the shape is the same
pub record ChangesItem {n : ℕ} (item : ℕ) (old new : KeptState n) : Type 0 where
  pub exists : item < items_of old.shape
  pub shape : new.shape ≡ old.shape
  pub others : (other : ℕ) → other < items_of old.shape → other ≢ item → item_values new other ≡ item_values old other

-- what each event that ends a line write changes: the region of the write that was stored, the region whose gap has moved, the spare
-- that was given, or the mark
pub record ChangesOf {n : ℕ} (kept : KeptState n) : Type 0 where
  pub stored : 0 < length kept.entries → ChangesItem (head_line kept.entries / kept.shape.lines) kept (stored_kept kept)
  pub moved : (region : ℕ) → due_region kept ≡ Some region → ChangesItem region kept (moved_kept kept)
  pub retired : (slot : ℕ) → used_by kept.table < kept.shape.spares → ChangesItem (kept.shape.regions + used_by kept.table) kept (retired_kept slot kept)
  pub exhausted : ChangesItem (kept.shape.regions + kept.shape.spares) kept (exhausted_kept kept)

abbrev pub ChangesLaw : Type 0
ChangesLaw = (n : ℕ) (kept : KeptState n) → IsKept kept → ChangesOf kept

-- where no change stands, and an event's change is put with the values that the bank then keeps, the control lines hold it, whatever
-- became of the array's other lines
abbrev pub PutLaw : Type 0
PutLaw =
    (n m e item : ℕ) (old new : KeptState n) (regs : RegsState n m e) (before after : ArrayState n m) (change : Change)
    → Control old regs before → regs.change ≡ None → ChangesItem item old new → item < controls_of old.shape
    → change.item ≡ item → change.values ≡ item_values new item → LeavesControls regs before after
    → Control new (with_change change regs) after
