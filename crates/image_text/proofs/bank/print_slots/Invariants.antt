use Rattle.std.proofs.Common.{◌≤◌, length, take}
use Rattle.std.specs.List.{flat_map}
use Rattle.pcm_image.specs.Spelling.{u32}
use Rattle.text_printer.specs.Printing.{Prints}
use Rattle.image_text.proofs.bank.print_slots.Given as goal

-- those so far are printed
abbrev pub invariant-loop-spare : goal.invariant-loop-spare
invariant-loop-spare g l = Prints g.K.Sink.written g.K.Sink.faults l.fn.printer l.printer (flat_map u32 (take l.spare l.remap.replaced)) × (l.spare ≤ length l.remap.replaced)
