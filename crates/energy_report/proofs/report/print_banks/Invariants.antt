use Rattle.std.proofs.Common.{◌≤◌}
use Rattle.text_printer.specs.Printing.{Prints}
use Rattle.energy_report.specs.EnergyText.{bank_rows}
use Rattle.energy_report.proofs.report.print_banks.Given as goal

-- the rows of the banks so far are printed
abbrev pub invariant-loop-bank : goal.invariant-loop-bank
invariant-loop-bank g l = Prints g.K.Sink.written g.K.Sink.faults l.fn.printer l.printer (bank_rows (g.A.CellArray.state l.array).energy l.lines l.bank) × (l.bank ≤ l.banks)
