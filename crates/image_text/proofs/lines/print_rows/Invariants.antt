use Rattle.std.proofs.Common.{◌≤◌}
use Rattle.std.specs.List.{flat_map}
use Rattle.pcm_image.specs.Spelling.{cells_bytes}
use Rattle.right_images.specs.Saving.{saved_cells}
use Rattle.image_text.specs.Sensing.{SensesRows}
use Rattle.image_text.proofs.lines.print_rows.Given as goal
use Rattle.text_printer.specs.Printing.{Prints}

-- those so far are printed, and were sensed; each of them has the bytes of a line
abbrev pub invariant-loop-line : goal.invariant-loop-line
invariant-loop-line g l =
    Prints g.K.Sink.written g.K.Sink.faults l.fn.printer l.printer (flat_map cells_bytes (saved_cells (g.A.CellArray.state l.fn.array) l.line))
    × (l.line ≤ (g.A.CellArray.state l.fn.array).lines) × SensesRows l.line (g.A.CellArray.state l.fn.array) (g.A.CellArray.state l.array)
