use Rattle.std.proofs.Common.{◌≡◌}
use Rattle.std.specs.Prelude.{drop}
use Rattle.check_telling.specs.{Standing.first_at, Steps.is_ahead}
use Rattle.check_telling.proofs.reads.ahead.Given as goal

abbrev pub invariant-loop-one : goal.invariant-loop-one
invariant-loop-one g l = first_at (is_ahead l.line l.next) (drop l.one-index l.standing) ≡ first_at (is_ahead l.line l.next) l.standing
