-- The rows that stand in the queue and among the waiting reads.
use Rattle.std.specs.{List.list_any, Prelude.{◌≡◌, ℕ, ◌≤◌, ◌==◌, Bool, true, false, List, [], ◌∷◌}}
use Rattle.masked_bytes.specs.{Entries.{has_row, RowsApart}, declared.entry.Entry.Entry}
use Rattle.bank_shape.specs.declared.BankShape.{BankShape}
use Rattle.bank_model.specs.{Events.{BankEvent, RowsBelow}, History.{Awaited, queue, waits}}

-- whether a read of this row waits
abbrev pub has_wait : List Awaited → ℕ → Bool
has_wait ws row = list_any (λ w. w.row == row) ws

-- no two reads that wait have one row
abbrev pub WaitsApart : List Awaited → Type 0
WaitsApart [] = Unit {0}
WaitsApart (w ∷ ws) = (has_wait ws w.row ≡ false) × WaitsApart ws

-- the rows of entries and of waiting reads are below the next row, and all apart
pub record AreRowsApart {n : ℕ} (es : List (Entry n)) (ws : List Awaited) (next : ℕ) : Type 0 where
  pub queued_below : (row : ℕ) → next ≤ row → has_row es row ≡ false
  pub waiting_below : (row : ℕ) → next ≤ row → has_wait ws row ≡ false
  pub queued_apart : RowsApart es
  pub waiting_apart : WaitsApart ws
  pub one_place : (row : ℕ) → has_row es row ≡ true → has_wait ws row ≡ false

-- so it is after any events whose rows rise
abbrev pub RowLaw : Type 0
RowLaw = (n : ℕ) (shape : BankShape) (h : List (BankEvent n)) (next : ℕ) → RowsBelow h next → AreRowsApart (queue shape h) (waits shape h) next
