use Rattle.std.proofs.Common.{arith, add-one}
use Rattle.masked_bytes.proofs.Layering.{joined-take_next}
use Rattle.masked_bytes.proofs.layers.join_given.Goals as goal

pub loop-i-preserved : goal.loop-i-preserved
loop-i-preserved g c =
    rw (add-one, c.loop-i.invariant)
    (joined-take_next c.args.given.now c.args.other.now c.loop-i.i (omega arith) (omega arith))
