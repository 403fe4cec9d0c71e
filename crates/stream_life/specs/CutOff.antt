-- What a bank is like behind whose last row the power stays off, over cells that endure what its hot lines bring.
use Rattle.std.specs.Prelude.{◌≡◌, ℕ, ◌+◌, ◌<◌, IsTrue, IsFalse, List, []}
use Rattle.cell_rows.specs.Device.{ArrayState}
use Rattle.ecp_line.specs.{ArrayLines.is_worn_at, Layout.IsLayout}
use Rattle.row_rules.specs.{Rows.each_row, declared.Row.Row}
use Rattle.bank_shape.specs.Shape.{slots_of}
use Rattle.module_shape.specs.{Addresses.{module_of, bank_shape}, Limits.IsShape, declared.raw.RawShape.RawShape}
use Rattle.right_runs.specs.{Banks.rules_in, Ends.BankEnd, Roles.used_spares, Runs.StopsRight, Tables.table_in, WornLines.may_leave}
use Rattle.lifetime_laws.specs.{Endurance.is_unrefused, Lifetime.BearsControls}
use Rattle.run_laws.specs.Lasting.{Outlasts}

-- a bank that wore out nowhere before the power went for good: no cell of a slot's own line is stuck, and none such is worn; no row tells
-- of wear, each slot has its own line, and no spare is used. Writes may stand in its queue, but where cells bear its control lines too
-- wear is no reason for it
pub record IsUnworn {n m : ℕ} (e : ℕ) (raw : RawShape) (seed : ℕ) (rows : List (Row n)) (array : ArrayState n m) (end : BankEnd)
    (bank : ℕ) : Type 0 where
  pub live : (slot c : ℕ) → slot < slots_of (bank_shape (module_of raw) bank)
      → IsFalse ((array.line ((bank_shape (module_of raw) bank).base + slot)).stuck c)
  pub unworn : (slot : ℕ) → slot < slots_of (bank_shape (module_of raw) bank)
      → IsFalse (is_worn_at e array ((bank_shape (module_of raw) bank).base + slot))
  pub taken : IsTrue (each_row is_unrefused (table_in raw seed bank rows) [])
  pub leaves : BearsControls array.bounds (bank_shape (module_of raw) bank) (rules_in e raw bank) (table_in raw seed bank rows)
      → IsFalse (may_leave (bank_shape (module_of raw) bank) (is_worn_at e array))
  pub own : (slot : ℕ) → slot < slots_of (bank_shape (module_of raw) bank)
      → end.table slot ≡ (bank_shape (module_of raw) bank).base + slot
  pub unused : used_spares (bank_shape (module_of raw) bank) end.table ≡ 0

-- the rows of a bank behind whose last one the power stays off, over cells that endure more changes than any slot's own line may take line
-- writes: it wore out nowhere
abbrev pub CutOffLaw : Type 0
CutOffLaw =
    (n m e : ℕ) (raw : RawShape) (seed : ℕ) (rows : List (Row n)) (array : ArrayState n m) (ends : ℕ → BankEnd)
    (hot : ℕ → List ℕ) (bank : ℕ) → IsShape raw → IsLayout n m e → StopsRight e raw seed rows array ends
    → bank < raw.banks → Outlasts array.bounds e raw seed rows bank hot
    → IsUnworn e raw seed rows array (ends bank) bank
