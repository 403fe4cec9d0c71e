use Rattle.std.proofs.Common.{◌≤◌, take}
use Rattle.std.specs.List.{flat_map}
use Rattle.large_image.specs.Spelling.{bank_bytes}
use Rattle.right_images.specs.Saving.{saved_banks}
use Rattle.module_prints.specs.Images.{kept_in}
use Rattle.text_printer.specs.Printing.{Prints}
use Rattle.large_prints.proofs.image.print_banks.Given as goal

-- those so far are printed
abbrev pub invariant-loop-bank : goal.invariant-loop-bank
invariant-loop-bank g l =
    Prints g.K.Sink.written g.K.Sink.faults l.fn.printer l.printer (flat_map bank_bytes (take l.bank (saved_banks (kept_in l.pcm) l.pcm.shape.banks))) × (l.bank ≤ l.pcm.shape.banks)
