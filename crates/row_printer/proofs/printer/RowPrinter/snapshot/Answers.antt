use Rattle.ghost_list.specs.Items.{items}
use Rattle.row_printer.proofs.printer.RowPrinter.snapshot.Goals as goal

pub returns-clause-printing : goal.returns-clause-printing
returns-clause-printing g c =
    rw (c.and.ensures.items, ← c.self.view_is)
    (λ before first h. c.print_one-self-inside.ensures.printed g.row.B before first (items c.self.inside.told) (items c.self.inside.snapshots) (rw c.deref_mut.ensures.value h))
