use Rattle.std.proofs.Common.{◌≡◌, ◌==◌, take, false}
use Rattle.std.specs.List.{list_any}
use Rattle.bank_core.proofs.bank.Bank.is_queued.Given as goal

-- no entry before this index has the row
abbrev pub invariant-loop-index : goal.invariant-loop-index
invariant-loop-index g l = list_any (λ e. e.row == l.row) (take l.index l.self-inside.kept.entries) ≡ false
