use Rattle.std.proofs.Common.{◌≤◌, length, take, map}
use Rattle.std.specs.List.{flat_map}
use Rattle.pcm_image.specs.Spelling.{entry_bytes}
use Rattle.right_images.specs.Saving.{saved_entry}
use Rattle.text_printer.specs.Printing.{Prints}
use Rattle.image_text.proofs.bank.print_entries.Given as goal

-- those so far are printed
abbrev pub invariant-loop-index : goal.invariant-loop-index
invariant-loop-index g l =
    Prints g.K.Sink.written g.K.Sink.faults l.fn.printer l.printer (flat_map entry_bytes (take l.index (map saved_entry l.kept.entries))) × (l.index ≤ length (map saved_entry l.kept.entries))
