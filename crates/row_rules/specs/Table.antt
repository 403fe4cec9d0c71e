-- The laws of a whole table.
use Rattle.std.specs.Prelude.{ℕ, List, [], Bool, true, ◌==◌, filter, IsTrue}
use Rattle.row_rules.specs.{Queueing.is_queue_fair, Rows.each_row, Serving.is_served, Ticking.is_in_time, Wearing.{is_wear_final, is_wear_earned}, declared.Asks.Asks}
use Rattle.row_rules.specs.{declared.Asks.TheVariants.{Reads, Writes, Cuts}, declared.Row.Row, declared.Rules.Rules}

-- each row of one bank's table, the newest first, keeps the laws of the rows
pub record KeepsRows {n : ℕ} (rules : Rules) (rows : List (Row n)) : Type 0 where
  pub served : IsTrue (each_row is_served rows [])
  pub queue : IsTrue (each_row (is_queue_fair rules) rows [])
  pub wear : IsTrue (each_row is_wear_final rows [])
  pub earned : IsTrue (each_row is_wear_earned rows [])
  pub ticks : IsTrue (each_row (is_in_time rules) rows [])

-- a row is one of a bank's table: a read or a write of the bank's, or a cut, which is of every bank's
abbrev pub is_of : {n : ℕ} → (ℕ → ℕ) → ℕ → Asks n → Bool
is_of bank_of bank (Reads line) = bank_of line == bank
is_of bank_of bank (Writes line bytes given) = bank_of line == bank
is_of bank_of bank Cuts = true

-- a bank's table out of that of all banks
abbrev pub of_bank : {n : ℕ} → (ℕ → ℕ) → ℕ → List (Row n) → List (Row n)
of_bank bank_of bank rows = filter (λ r. is_of bank_of bank r.asks) rows
