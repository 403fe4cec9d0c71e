use Rattle.std.proofs.Common.{arith, add-one}
use Rattle.masked_bytes.proofs.Layering.{laid-take_next}
use Rattle.check_telling.proofs.newest.lay_numbers.Goals as goal

pub loop-i-preserved : goal.loop-i-preserved
loop-i-preserved g c =
    rw (add-one, c.picked.ensures, c.loop-i.invariant)
    (laid-take_next c.args.numbers.now c.args.given.now c.args.under.now c.loop-i.i (omega arith) (omega arith) (omega arith))
