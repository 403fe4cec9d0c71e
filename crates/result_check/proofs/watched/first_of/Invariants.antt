use Rattle.std.proofs.Common.{◌≡◌}
use Rattle.std.specs.Prelude.{drop}
use Rattle.check_verdict.specs.Members.{never}
use Rattle.result_check.specs.Watching.{least_of}
use Rattle.result_check.proofs.watched.first_of.Given as goal

abbrev pub invariant-loop-tick : goal.invariant-loop-tick
invariant-loop-tick l = least_of l.first (drop l.tick-index l.ticks) ≡ least_of never l.ticks
