use Rattle.image_text.proofs.Whole.{whole-bank}
use Rattle.image_text.proofs.bank.print_bank.Goals as goal
use Rattle.text_printer.proofs.Printed.{prints-same, prints-then}

pub returns : goal.returns
returns g c =
    let w = g.K.Sink.written in
    let f = g.K.Sink.faults in
    prints-same w f _ _ _ _
    (whole-bank c.args.kept.now c.remap-remap.result.now c.exhausted.result c.mark_of.result c.used.result c.len.result
    c.remap-remap.ensures.table c.exhausted.ensures.mark c.mark_of.ensures c.used.ensures.value c.len.ensures.len)
    (prints-then w f _ _ _ _ _ c.print_mark.ensures (prints-then w f _ _ _ _ _ c.print_slots.ensures
    (prints-then w f _ _ _ _ _ c.print_regions.ensures (prints-then w f _ _ _ _ _ c.print_count.ensures c.print_entries.ensures))))
