-- The table of each bank, out of that of the module.
use Rattle.std.specs.Prelude.{ℕ, List, map}
use Rattle.row_rules.specs.{Queueing.has_room, Rows.RowTest, Table.of_bank, declared.Asks.Asks, declared.Asks.TheVariants.{Reads, Writes, Cuts}, declared.Row.Row}
use Rattle.row_rules.specs.declared.Rules.{Rules}
use Rattle.module_shape.specs.declared.raw.RawShape.{RawShape}
use Rattle.right_runs.specs.Banks.{bank_of_line, line_in_bank}

module _ {n : ℕ} (bank_of line_in : ℕ → ℕ) where
  -- the same with the line's number in its bank
  abbrev pub asks_in : Asks n → Asks n
  asks_in (Reads line) = Reads (line_in line)
  asks_in (Writes line bytes given) = Writes (line_in line) bytes given
  asks_in Cuts = Cuts

  -- the row with the line's number in its bank
  abbrev pub row_in : Row n → Row n
  row_in r = record { tick = r.tick; asks = asks_in r.asks; outcome = r.outcome }

  -- a bank's table out of that of the module, with the numbers that the lines have there
  abbrev pub bank_table : ℕ → List (Row n) → List (Row n)
  bank_table bank rows = map row_in (of_bank bank_of bank rows)

-- as a row comes, a bank holds no more writes and reads than it may, whichever bank the row is of
abbrev pub finds_room_in : {n : ℕ} → (ℕ → ℕ) → (ℕ → ℕ) → Rules → ℕ → RowTest n
finds_room_in bank_of line_in rules bank before r after = has_room rules r.tick (bank_table bank_of line_in bank before)

-- the table of a bank, with the numbers that its lines have there
abbrev pub table_in : {n : ℕ} → RawShape → ℕ → ℕ → List (Row n) → List (Row n)
table_in raw seed bank rows = bank_table (bank_of_line raw seed) (line_in_bank raw seed) bank rows
