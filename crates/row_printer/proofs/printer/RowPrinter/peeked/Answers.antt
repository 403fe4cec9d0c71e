use Rattle.std.proofs.Common.{[], ◌∷◌, refl}
use Rattle.row_printer.{specs.declared.told.Told.TheVariants.Peeked, proofs.Telling.outcomes-same}
use Rattle.ghost_list.specs.Items.{items}
use Rattle.row_printer.proofs.printer.RowPrinter.peeked.Goals as goal

pub invariant_of-self : goal.invariant_of-self
invariant_of-self g c =
    rw c.and.ensures.items (record {
      few = c.self.invariant.few;
      shown = c.self.invariant.shown;
      limit = c.print_line-self-inside.ensures.limit;
      once = rw (outcomes-same (items c.self.inside.told) (Peeked c.args.tick c.args.newest ∷ []) refl) c.self.invariant.once;
      counted = rw (outcomes-same (items c.self.inside.told) (Peeked c.args.tick c.args.newest ∷ []) refl) c.self.invariant.counted;
    })

pub returns-clause-printing : goal.returns-clause-printing
returns-clause-printing g c =
    rw (c.and.ensures.items, ← c.self.view_is)
    (λ before first h. c.print_line-self-inside.ensures.printed before first (items c.self.inside.told) (items c.self.inside.snapshots) (rw c.deref_mut.ensures.value h))
