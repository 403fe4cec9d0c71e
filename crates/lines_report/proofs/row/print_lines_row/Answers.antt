use Rattle.lines_report.{specs.LinesText.lines_text, proofs.LinesLemmas.{printed-row, text-part}}
use Rattle.lines_report.proofs.row.print_lines_row.Goals as goal
use Rattle.text_printer.proofs.Ending.{on_err_any}

pub returns-in_err-make_room-clause-prefix : goal.returns-in_err-make_room-clause-prefix
returns-in_err-make_room-clause-prefix g c =
    on_err_any c.from_residual.result _
    (λ before told rows later h. text-part told before _ rows later (c.in_err-make_room.ensures.part before (lines_text told rows) h))

pub returns-clause-ok : goal.returns-clause-ok
returns-clause-ok g c =
    λ before told rows count mine h.
    printed-row told before _ c.make_room.new.text _ rows c.args.array_line c.args.bank c.args.pulses c.args.role c.args.cells c.push_row.ensures count mine
    (c.in_ok-make_room.ensures.printed before (lines_text told rows) h)
