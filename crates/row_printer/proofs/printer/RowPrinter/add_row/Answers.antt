use Rattle.row_printer.proofs.Growing.{once-wider, table-longer, counted-longer}
use Rattle.ghost_list.specs.Items.{items}
use Rattle.row_printer.proofs.printer.RowPrinter.add_row.Goals as goal

pub invariant_of-self : goal.invariant_of-self
invariant_of-self g c = record {
  few = c.self.invariant.few;
  shown = c.self.invariant.shown;
  limit = c.self.invariant.limit;
  once = once-wider c.self.inside.rows _ c.self.invariant.once;
  counted = counted-longer c.self.inside.rows (items c.self.inside.told) c.self.inside.counts c.self.invariant.once c.self.invariant.counted;
}

pub returns-clause-table : goal.returns-clause-table
returns-clause-table g c = rw (← c.self.view_is) (table-longer c.self.inside.rows (items c.self.inside.told) c.self.invariant.once)
