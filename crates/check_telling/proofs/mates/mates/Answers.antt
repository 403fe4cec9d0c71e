use Rattle.std.proofs.Common.{arith}
use Rattle.check_verdict.specs.Verdicts.{bank_in}
use Rattle.check_telling.proofs.Banks.{mates_found, mates_made, mates_told}
use Rattle.check_telling.proofs.mates.mates.Goals as goal

pub returns-clause-exact : goal.returns-clause-exact
returns-clause-exact g c =
    mates_made (bank_in c.args.banks.now) c.args.bank c.args.above c.loop-i.i c.loop-i.told.items c.args.rows.now (omega arith) c.loop-i.invariant

pub returns-clause-rows : goal.returns-clause-rows
returns-clause-rows g c =
    mates_found (bank_in c.args.banks.now) c.args.bank c.args.above c.loop-i.i c.loop-i.told.items c.args.rows.now (omega arith) c.loop-i.invariant

pub returns-clause-numbers : goal.returns-clause-numbers
returns-clause-numbers g c =
    mates_told (bank_in c.args.banks.now) c.args.bank c.args.above c.loop-i.i c.loop-i.told.items c.args.rows.now (omega arith) c.loop-i.invariant
