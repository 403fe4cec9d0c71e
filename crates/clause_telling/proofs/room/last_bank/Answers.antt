use Rattle.std.proofs.Common.{arith}
use Rattle.clause_telling.proofs.Rooms.{last_done}
use Rattle.clause_telling.proofs.room.last_bank.Goals as goal

pub returns : goal.returns
returns g c = last_done c.args.banks.now c.loop-row.row-index c.loop-row.found c.args.before.now (omega arith) c.loop-row.invariant
