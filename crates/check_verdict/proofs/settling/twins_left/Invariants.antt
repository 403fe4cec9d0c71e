use Rattle.std.proofs.Common.{◌≡◌, ◌++◌}
use Rattle.std.specs.Prelude.{drop, filter, nat_le, not, take}
use Rattle.check_verdict.specs.Fitting.{twins_in}
use Rattle.check_verdict.proofs.settling.twins_left.Given as goal

abbrev pub invariant-loop-index : goal.invariant-loop-index
invariant-loop-index l = l.left ≡ twins_in (filter (λ m. not (nat_le m.end l.tick)) (take l.index l.members) ++ drop l.index l.members)
