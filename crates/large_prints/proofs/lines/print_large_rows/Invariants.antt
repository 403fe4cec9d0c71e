use Rattle.std.proofs.Common.{◌≤◌}
use Rattle.large_image.specs.Spelling.{rows_bytes}
use Rattle.right_images.specs.Saving.{saved_cells}
use Rattle.image_text.specs.Sensing.{SensesRows}
use Rattle.text_printer.specs.Printing.{Prints}
use Rattle.large_prints.proofs.lines.print_large_rows.Given as goal

-- those so far are printed, and were sensed; each of them has the bytes of a line
abbrev pub invariant-loop-line : goal.invariant-loop-line
invariant-loop-line g l =
    Prints g.K.Sink.written g.K.Sink.faults l.fn.printer l.printer (rows_bytes 0 (saved_cells (g.A.CellArray.state l.fn.array) l.line))
    × (l.line ≤ (g.A.CellArray.state l.fn.array).lines) × SensesRows l.line (g.A.CellArray.state l.fn.array) (g.A.CellArray.state l.array)
