use Rattle.std.proofs.Common.{arith}
use Rattle.check_telling.proofs.Folds.{newest_done, givers_done}
use Rattle.check_telling.proofs.newest.find_newest.Goals as goal

pub returns-clause-bytes : goal.returns-clause-bytes
returns-clause-bytes g c =
    newest_done c.args.line c.loop-i.i c.loop-i.found.bytes c.args.rows.now (omega arith) c.loop-i.invariant.bytes_left

pub returns-clause-givers : goal.returns-clause-givers
returns-clause-givers g c =
    givers_done c.args.line c.loop-i.i c.loop-i.i c.loop-i.found.givers c.args.rows.now (omega arith) c.loop-i.invariant.numbers_left
