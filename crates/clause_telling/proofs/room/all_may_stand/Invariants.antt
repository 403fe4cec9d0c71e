use Rattle.std.proofs.Common.{◌≡◌}
use Rattle.std.specs.{List.list_all, Prelude.drop}
use Rattle.check_telling.specs.Standing.{rows_of}
use Rattle.clause_telling.specs.Rooms.{may_stand}
use Rattle.clause_telling.proofs.room.all_may_stand.Given as goal

abbrev pub invariant-loop-one : goal.invariant-loop-one
invariant-loop-one g l =
    list_all (may_stand (rows_of l.standing) l.line l.newer) (rows_of (drop l.one-index l.earlier)) ≡ list_all (may_stand (rows_of l.standing) l.line l.newer) (rows_of l.earlier)
