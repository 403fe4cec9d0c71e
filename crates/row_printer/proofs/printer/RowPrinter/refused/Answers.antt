use Rattle.row_printer.{specs.Printing.table_of, proofs.Refused.{by-full, by-worn}}
use Rattle.ghost_list.specs.Items.{items}
use Rattle.row_printer.proofs.printer.RowPrinter.refused.Goals as goal

pub returns-then-self-gt0 : goal.returns-then-self-gt0
returns-then-self-gt0 g c = rw (← c.self.view_is) (by-full (table_of c.self.inside.rows (items c.self.inside.told)) c.self.inside.counts c.self.invariant.counted c.if-self-gt0.true)

pub returns-else-self-gt0 : goal.returns-else-self-gt0
returns-else-self-gt0 g c = rw (← c.self.view_is) (by-worn (table_of c.self.inside.rows (items c.self.inside.told)) c.self.inside.counts c.self.invariant.counted c.if-self-gt0.false)
