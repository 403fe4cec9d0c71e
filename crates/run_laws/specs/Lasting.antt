-- A finished run whose hot lines are few, over cells that endure.
use Rattle.std.specs.Prelude.{◌≡◌, ℕ, ◌+◌, ◌<◌, List}
use Rattle.cell_rows.specs.Device.{CellBounds, ArrayState}
use Rattle.ecp_line.specs.Layout.{IsLayout}
use Rattle.row_rules.specs.declared.Row.{Row}
use Rattle.bank_shape.specs.Shape.{slots_of}
use Rattle.module_shape.specs.{Addresses.{module_of, bank_shape}, Limits.IsShape, declared.raw.RawShape.RawShape}
use Rattle.right_runs.specs.{Banks.rules_in, Ends.BankEnd, Roles.used_spares, Runs.RunsRight, Tables.table_in}
use Rattle.lifetime_laws.specs.Lifetime.{LivesOn, BearsWorks, BearsAskedWorks}

module _ {n : ℕ} (bounds : CellBounds) (e : ℕ) (raw : RawShape) (seed : ℕ) (rows : List (Row n)) (bank : ℕ) (hot : ℕ → List ℕ) where
  -- cells endure more changes than any slot's own line of a bank may take line writes by a run's stores and cuts: in each region by its
  -- own hot lines, in the numbers that the bank's lines have there
  abbrev pub Outlasts : Type 0
  Outlasts = BearsWorks bounds (bank_shape (module_of raw) bank) (rules_in e raw bank) (table_in raw seed bank rows) hot

  -- the same by what the trace asks for, whatever becomes of it
  abbrev pub OutlastsAsked : Type 0
  OutlastsAsked = BearsAskedWorks bounds (bank_shape (module_of raw) bank) (rules_in e raw bank) (table_in raw seed bank rows) hot

-- a bank that wore out nowhere: its rows tell of no wear, each slot has its own line, and no spare is used
pub record IsAlive {n m : ℕ} (e : ℕ) (raw : RawShape) (seed : ℕ) (rows : List (Row n)) (array : ArrayState n m) (end : BankEnd)
    (bank : ℕ) : Type 0 where
  pub lives : LivesOn e (bank_shape (module_of raw) bank) array (rules_in e raw bank) (table_in raw seed bank rows)
  pub own : (slot : ℕ) → slot < slots_of (bank_shape (module_of raw) bank)
      → end.table slot ≡ (bank_shape (module_of raw) bank).base + slot
  pub unused : used_spares (bank_shape (module_of raw) bank) end.table ≡ 0

-- a right run over cells that endure more changes than that: the bank wears out nowhere, whatever the rest of the trace
abbrev pub AliveLaw : Type 0
AliveLaw =
    (n m e : ℕ) (raw : RawShape) (seed : ℕ) (rows : List (Row n)) (array : ArrayState n m) (ends : ℕ → BankEnd)
    (hot : ℕ → List ℕ) (bank : ℕ) → IsShape raw → IsLayout n m e → RunsRight e raw seed rows array ends
    → bank < raw.banks → Outlasts array.bounds e raw seed rows bank hot
    → IsAlive e raw seed rows array (ends bank) bank

-- so it is where the trace asks for no more than that
abbrev pub AskedAliveLaw : Type 0
AskedAliveLaw =
    (n m e : ℕ) (raw : RawShape) (seed : ℕ) (rows : List (Row n)) (array : ArrayState n m) (ends : ℕ → BankEnd)
    (hot : ℕ → List ℕ) (bank : ℕ) → IsShape raw → IsLayout n m e → RunsRight e raw seed rows array ends
    → bank < raw.banks → OutlastsAsked array.bounds e raw seed rows bank hot
    → IsAlive e raw seed rows array (ends bank) bank
