use Rattle.row_printer.specs.Printing.{stream_text}
use Rattle.ghost_list.specs.Items.{items}
use Rattle.row_printer.proofs.printer.RowPrinter.flush.Goals as goal

pub returns-then-self-clause-printing : goal.returns-then-self-clause-printing
returns-then-self-clause-printing g c = rw (← c.self.view_is) (λ before first h. c.print_all-self-inside.ensures.printed before first _ (rw c.deref_mut.ensures.value h))

pub returns-then-self-clause-err : goal.returns-then-self-clause-err
returns-then-self-clause-err g c =
    rw (← c.self.view_is)
    (λ before first h.
    let p = c.print_all-self-inside.ensures.printed before first (stream_text c.self.inside.prints (items c.self.inside.told) (items c.self.inside.snapshots)) (rw c.deref_mut.ensures.value h) in
    (p.part c.if-self.true, p.fault c.if-self.true))

pub returns-clause-printing : goal.returns-clause-printing
returns-clause-printing g c = rw (← c.self.view_is) (λ before first h. c.print_all-self-inside.ensures.printed before first _ (rw c.deref_mut.ensures.value h))
