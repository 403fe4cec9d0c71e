use Rattle.std.proofs.Common.{◌≡◌, []}
use Rattle.std.specs.Prelude.{drop}
use Rattle.check_telling.proofs.Stands.{standing_on}
use Rattle.check_telling.proofs.standing.standing.Given as goal

abbrev pub invariant-loop-one : goal.invariant-loop-one
invariant-loop-one g l = standing_on l.tick l.told.items (drop l.one-index l.past) ≡ standing_on l.tick [] l.past
