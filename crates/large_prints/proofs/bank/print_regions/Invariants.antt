use Rattle.std.proofs.Common.{◌≤◌, length, take, map}
use Rattle.std.specs.List.{flat_map}
use Rattle.large_image.specs.Spelling.{region_bytes}
use Rattle.right_images.specs.Saving.{saved_region}
use Rattle.text_printer.specs.Printing.{Prints}
use Rattle.large_prints.proofs.bank.print_regions.Given as goal

-- those so far are printed
abbrev pub invariant-loop-region : goal.invariant-loop-region
invariant-loop-region g l =
    Prints g.K.Sink.written g.K.Sink.faults l.fn.printer l.printer (flat_map region_bytes (take l.region (map saved_region l.kept.regions))) × (l.region ≤ length (map saved_region l.kept.regions))
