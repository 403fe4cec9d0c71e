use Rattle.std.proofs.Common.{◌≡◌, []}
use Rattle.std.specs.Prelude.{drop, take}
use Rattle.check_telling.specs.Standing.{rows_of}
use Rattle.clause_telling.specs.Rooms.{first_crowded}
use Rattle.clause_telling.proofs.room.first_crowded.Given as goal

abbrev pub invariant-loop-i : goal.invariant-loop-i
invariant-loop-i g l = first_crowded (rows_of l.standing) (rows_of (take l.i l.standing)) (drop l.i l.standing) ≡ first_crowded (rows_of l.standing) [] l.standing
