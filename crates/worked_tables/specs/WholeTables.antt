-- Two worked tables of a bank, as its laws look at them.
use Rattle.std.specs.Prelude.{ℕ, List, [], length, reverse, take}
use Rattle.bank_shape.specs.declared.BankShape.{BankShape}
use Rattle.bank_shape.specs.declared.Home.TheVariants as home
use Rattle.row_rules.specs.{Queueing.pending, declared.Row.Row}
use Rattle.worked_tables.specs.TableExamples.{one_entry, no_spare}

-- how many writes a row at a tick finds in the queue that holds one, with so many rows before it
abbrev pub found : ℕ → ℕ → ℕ
found tick rows = length (pending tick [] (reverse (take rows one_entry)))

-- a bank of four lines without a spare, and its rows, the newest first: a write stays in the queue, the next is refused
abbrev pub without_spares : BankShape
without_spares = record { base = 0; regions = 1; lines = 4; spares = 0; writes = 4; reads = 4; psi = 100; home = home.Guarded }

abbrev pub worn_out : List (Row 2)
worn_out = reverse no_spare
