use Rattle.std.proofs.Common.{◌∙◌, sym}
use Rattle.text_printer.proofs.Printed.{prints-none, prints-same}
use Rattle.large_prints.proofs.Rows.{row-some, row-zero}
use Rattle.large_prints.proofs.lines.print_row.Goals as goal

pub returns-then-is_blank : goal.returns-then-is_blank
returns-then-is_blank g c =
    prints-same g.K.Sink.written g.K.Sink.faults _ _ _ _ (row-zero c.args.line c.args.cells.now (sym c.is_blank.ensures ∙ c.if-is_blank.true)) (prints-none g.K.Sink.written g.K.Sink.faults _)

pub returns : goal.returns
returns g c = prints-same g.K.Sink.written g.K.Sink.faults _ _ _ _ (row-some c.args.line c.args.cells.now (sym c.is_blank.ensures ∙ c.if-is_blank.false)) c.print_numbered.ensures
