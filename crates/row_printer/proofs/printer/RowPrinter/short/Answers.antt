use Rattle.std.proofs.Common.{◌∙◌, sym, ap}
use Rattle.std.specs.Prelude.{nat_lt}
use Rattle.row_printer.specs.Printing.{table_of}
use Rattle.ghost_list.specs.Items.{items}
use Rattle.row_printer.proofs.printer.RowPrinter.short.Goals as goal
use Rattle.run_text.specs.Laws.{rows_short}

pub returns : goal.returns
returns g c =
    rw (← c.self.view_is)
    (c.any_short.ensures ∙ ap (λ counts. nat_lt 0 (rows_short counts)) c.self.invariant.counted
    ∙ sym (c.short_rows_are_counted.ensures g.row.B (table_of c.self.inside.rows (items c.self.inside.told))))
