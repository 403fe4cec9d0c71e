-- What a bank over cells that endure never shows: a worn line of a slot, a write that is refused, one that stays in the queue.
use Rattle.std.specs.Prelude.{◌≡◌, ℕ, ◌+◌, ◌<◌, ◌≤◌, ◌&&◌, not, Bool, IsTrue, IsFalse, List, []}
use Rattle.cell_rows.specs.Device.{ArrayState}
use Rattle.ecp_line.specs.{ArrayLines.is_worn_at, Layout.IsLayout}
use Rattle.row_rules.specs.{Answers.is_queued, Rows.{RowTest, each_row, asks_write}, Wearing.worn_row, declared.Row.Row, declared.Rules.Rules}
use Rattle.bank_shape.specs.{Shape.{slots_of, controls_of, control_line}, declared.BankShape.BankShape}
use Rattle.right_runs.specs.{Ends.{BankEnd, EndsWith}, KeepsPlaces.KeepsPlaces, Roles.used_spares, WornLines.may_leave}

-- ---- lines

-- a line whose cells stick only where they endure no more than so isn't worn where they endure more: no cell of it is stuck
abbrev pub UnwornLaw : Type 0
UnwornLaw =
    (B M e : ℕ) (array : ArrayState B M) (most line : ℕ) → IsLayout B M e
    → ((c : ℕ) → IsTrue ((array.line line).stuck c) → array.bounds.endures ≤ most)
    → most < array.bounds.endures → IsFalse (is_worn_at e array line)

-- ---- a bank's table

-- a row that isn't refused for want of a spare
abbrev pub is_unrefused : {n : ℕ} → RowTest n
is_unrefused before r after = not (worn_row r)

-- a row that isn't left in the queue
abbrev pub is_unqueued : {n : ℕ} → RowTest n
is_unqueued before r after = not (asks_write r.asks && is_queued r.outcome)

-- no control line of a bank is worn: a bank whose registers are guarded has none
abbrev pub KeepsControls : BankShape → (ℕ → Bool) → Type 0
KeepsControls shape worn = (item : ℕ) → item < controls_of shape → IsFalse (worn (control_line shape item))

-- what the rows tell where no slot's own line is worn in the end: none was refused; and unless a control line is worn, none is left in
-- the queue, nor has the bank a reason to leave one
pub record TellsNoWear {n : ℕ} (shape : BankShape) (worn : ℕ → Bool) (rows : List (Row n)) : Type 0 where
  pub taken : IsTrue (each_row is_unrefused rows [])
  pub finished : KeepsControls shape worn → IsTrue (each_row is_unqueued rows [])
  pub leaves : KeepsControls shape worn → IsFalse (may_leave shape worn)

abbrev pub SoundRowsLaw : Type 0
SoundRowsLaw =
    (n m e : ℕ) (shape : BankShape) (array : ArrayState n m) (rules : Rules) (rows : List (Row n)) → KeepsPlaces e shape array rules rows
    → ((slot : ℕ) → slot < slots_of shape → IsFalse (is_worn_at e array (shape.base + slot)))
    → TellsNoWear shape (is_worn_at e array) rows

-- and each slot has its own line: none was retired, and no spare is used
abbrev pub NoneRetiredLaw : Type 0
NoneRetiredLaw =
    (n : ℕ) (shape : BankShape) (worn : ℕ → Bool) (held : ℕ → List ℕ) (rows : List (Row n)) (end : BankEnd)
    → EndsWith shape worn held rows end
    → ((slot : ℕ) → slot < slots_of shape → IsFalse (worn (shape.base + slot)))
    → ((slot : ℕ) → slot < slots_of shape → end.table slot ≡ shape.base + slot) × (used_spares shape end.table ≡ 0)
