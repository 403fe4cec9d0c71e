use Rattle.std.proofs.Common.{◌≡◌}
use Rattle.std.specs.Prelude.{drop}
use Rattle.row_rules.specs.Rows.{accepted_of}
use Rattle.check_telling.specs.Standing.{first_at}
use Rattle.check_telling.proofs.writes.next_accepted.Given as goal

abbrev pub invariant-loop-one : goal.invariant-loop-one
invariant-loop-one g l = first_at (accepted_of l.line) (drop l.one-index l.later) ≡ first_at (accepted_of l.line) l.later
