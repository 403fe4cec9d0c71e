use Rattle.std.proofs.Common.{◌≡◌, drop, false, nat_le}
use Rattle.std.specs.List.{list_any}
use Rattle.check_verdict.proofs.queue.some_end_by.Given as goal

abbrev pub invariant-loop-index : goal.invariant-loop-index
invariant-loop-index l = list_any (λ m. nat_le m.end l.tick) (drop l.index l.members) ≡ false
