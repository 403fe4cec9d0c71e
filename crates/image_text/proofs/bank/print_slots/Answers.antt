use Rattle.std.proofs.Common.{ap, arith}
use Rattle.pcm_image.specs.Spelling.{u32}
use Rattle.text_printer.proofs.Printed.{prints-all, prints-next, prints-none}
use Rattle.image_text.proofs.bank.print_slots.Goals as goal

pub loop-spare-init : goal.loop-spare-init
loop-spare-init g c = (prints-none g.K.Sink.written g.K.Sink.faults _, omega arith)

pub loop-spare-preserved : goal.loop-spare-preserved
loop-spare-preserved g c = (
  prints-next g.K.Sink.written g.K.Sink.faults u32 c.args.remap.now.replaced _ _ _ c.loop-spare.spare 0 _ (omega arith) (ap u32 c.replaced.ensures.slot) c.loop-spare.invariant.0 c.print_slot.ensures,
  omega arith,
)

pub returns : goal.returns
returns g c = prints-all g.K.Sink.written g.K.Sink.faults u32 c.args.remap.now.replaced _ _ c.loop-spare.spare (omega arith) c.loop-spare.invariant.0
