use Rattle.std.proofs.Common.{◌≡◌, ◌==◌, take, false}
use Rattle.std.specs.List.{list_any}
use Rattle.bank_core.proofs.bank.Bank.is_waiting.Given as goal

-- no read before this index is of the row
abbrev pub invariant-loop-index : goal.invariant-loop-index
invariant-loop-index g l = list_any (λ w. w.row == l.row) (take l.index l.self-inside.waiting.items) ≡ false
