use Rattle.std.proofs.Common.{◌≡◌}
use Rattle.std.specs.Prelude.{drop}
use Rattle.check_telling.specs.{Standing.rows_of, Steps.has_one}
use Rattle.check_telling.proofs.writes.has_one.Given as goal

abbrev pub invariant-loop-i : goal.invariant-loop-i
invariant-loop-i g l = has_one l.line (rows_of (drop l.i l.standing)) ≡ has_one l.line (rows_of l.standing)
