use Rattle.std.proofs.Common.{◌≡◌}
use Rattle.std.specs.Prelude.{drop}
use Rattle.check_telling.specs.{Standing.first_at, Steps.is_stored_first}
use Rattle.check_telling.proofs.writes.stored_first.Given as goal

abbrev pub invariant-loop-one : goal.invariant-loop-one
invariant-loop-one g l = first_at (is_stored_first l.outcome) (drop l.one-index l.standing) ≡ first_at (is_stored_first l.outcome) l.standing
