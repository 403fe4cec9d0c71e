use Rattle.std.proofs.Common.{◌≡◌, None}
use Rattle.std.specs.Prelude.{drop}
use Rattle.clause_telling.proofs.Rooms.{last_on}
use Rattle.clause_telling.proofs.room.last_bank.Given as goal

abbrev pub invariant-loop-row : goal.invariant-loop-row
invariant-loop-row g l = last_on l.banks l.found (drop l.row-index l.before) ≡ last_on l.banks None l.before
