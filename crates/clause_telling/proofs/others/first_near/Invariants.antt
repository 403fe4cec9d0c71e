use Rattle.std.proofs.Common.{◌≡◌}
use Rattle.std.specs.Prelude.{drop}
use Rattle.check_telling.specs.Standing.{first_at}
use Rattle.clause_telling.specs.Others.{is_near}
use Rattle.clause_telling.proofs.others.first_near.Given as goal

abbrev pub invariant-loop-one : goal.invariant-loop-one
invariant-loop-one g l = first_at (is_near l.read l.outcome) (drop l.one-index l.past) ≡ first_at (is_near l.read l.outcome) l.past
