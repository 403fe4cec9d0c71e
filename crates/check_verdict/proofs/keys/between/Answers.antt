use Rattle.std.proofs.Common.{arith}
use Rattle.check_judging.proofs.SortedKeys.{up_to-more}
use Rattle.check_verdict.proofs.keys.between.Goals as goal

pub overflow_sub-result : goal.overflow_sub-result
overflow_sub-result c =
    let k = up_to-more c.args.above c.args.key c.args.keys.now c.requires.order in
    omega (arith, k, c.up_to.ensures.number, c.up_to-2.ensures.number)

pub returns : goal.returns
returns c =
    let k = up_to-more c.args.above c.args.key c.args.keys.now c.requires.order in
    omega (arith, k, c.up_to.ensures.number, c.up_to-2.ensures.number)
