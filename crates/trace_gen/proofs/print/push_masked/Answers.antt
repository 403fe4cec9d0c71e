use Rattle.std.proofs.Common.{◌<◌, ◌∙◌, length, arith, rules}
use Rattle.trace_gen.proofs.Printed.{masked-nothing, masked-pushed}
use Rattle.trace_gen.proofs.print.push_masked.Goals as goal

pub loop-i-init : goal.loop-i-init
loop-i-init g c = record { after = masked-nothing c.args.text.now c.args.bytes.now c.args.given.now; room = omega arith }

pub loop-i-preserved : goal.loop-i-preserved
loop-i-preserved g c =
    let i = c.loop-i.i in
    let in_bytes : i < length c.args.bytes.now = search rules in
    let in_given : i < length c.args.given.now = search rules in
    record {
      after = c.push_pair.ensures.after ∙ masked-pushed c.args.text.now c.loop-i.text c.args.bytes.now c.args.given.now i in_bytes in_given c.loop-i.invariant.after;
      room = omega arith;
    }
