use Rattle.std.proofs.Common.{◌≡◌, ◌==◌, take, false}
use Rattle.std.specs.List.{list_any}
use Rattle.bank_core.proofs.bank.Bank.awaits.Given as goal

-- no read before this place is of the line
abbrev pub invariant-loop-place : goal.invariant-loop-place
invariant-loop-place g l = list_any (λ w. w.line == l.line) (take l.place l.self-inside.waiting.items) ≡ false
