use Rattle.std.proofs.Common.{◌≡◌}
use Rattle.std.specs.{List.list_all, Prelude.drop}
use Rattle.check_telling.specs.{Standing.rows_of, Steps.is_other_or_first}
use Rattle.check_telling.proofs.writes.all_in_flight.Given as goal

abbrev pub invariant-loop-one : goal.invariant-loop-one
invariant-loop-one g l =
    list_all (is_other_or_first (rows_of l.standing) l.tick l.line) (rows_of (drop l.one-index l.standing))
    ≡ list_all (is_other_or_first (rows_of l.standing) l.tick l.line) (rows_of l.standing)
