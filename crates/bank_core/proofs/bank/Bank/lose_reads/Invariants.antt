use Rattle.std.proofs.Common.{◌≡◌, ◌+◌, ◌≤◌, length}
use Rattle.bank_core.{specs.Bank.IsBank, proofs.Losing.rows_with}
use Rattle.bank_core.proofs.bank.Bank.lose_reads.Given as goal

-- the rows of those that wait still come behind the rows that are lost by now
abbrev pub invariant-loop : goal.invariant-loop
invariant-loop g l = record {
  kept : l.self-inside.kept ≡ l.initial.self-inside.kept;
  running : l.self-inside.running ≡ l.initial.self-inside.running;
  rows_below : l.self-inside.rows_below ≡ l.initial.self-inside.rows_below;
  bank : IsBank g.row.M g.row.E l.self-inside.kept l.self-inside.waiting.items l.self-inside.waiting.capacity l.self-inside.lost.capacity;
  fewer : length l.self-inside.waiting.items + l.counter ≤ length l.initial.self-inside.waiting.items;
  room : length l.self-inside.lost.items + length l.self-inside.waiting.items ≤ l.self-inside.kept.shape.reads;
  rows : rows_with l.self-inside.lost.items l.self-inside.waiting.items ≡ rows_with l.initial.self-inside.lost.items l.initial.self-inside.waiting.items;
}
