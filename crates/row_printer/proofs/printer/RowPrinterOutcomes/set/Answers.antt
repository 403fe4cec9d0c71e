use Rattle.std.proofs.Common.{rules, arith, [], ◌∷◌, refl}
use Rattle.row_printer.{specs.Telling.outcomes_in, proofs.Rows.{tells-next, table-set, set-counted, few-counted}, proofs.Telling.{heard-one, outcomes-more}}
use Rattle.ghost_list.specs.Items.{items}
use Rattle.row_printer.proofs.printer.RowPrinterOutcomes.set.Goals as goal

pub count-requires : goal.count-requires
count-requires g c =
    let unset = rw (← c.self.view_is) at c.requires.unset in
    (search rules, few-counted c.self.inside.rows (items c.self.inside.told) c.args.row c.self.inside.counts (omega (arith, c.self.ranges)) c.self.invariant.counted unset)

pub invariant_of-self : goal.invariant_of-self
invariant_of-self g c =
    let exists = rw (← c.self.view_is) at c.requires.exists in
    let unset = rw (← c.self.view_is) at c.requires.unset in
    let told = items c.self.inside.told in
    rw c.and.ensures.items (record {
      few = c.self.invariant.few;
      shown = c.self.invariant.shown;
      limit = c.print_line-self-inside.ensures.limit;
      once = rw (outcomes-more told c.args.row c.args.outcome) (tells-next c.self.inside.rows (outcomes_in told) c.args.row c.args.outcome c.self.invariant.once exists unset c.requires.told);
      counted = set-counted c.self.inside.rows told c.args.row c.args.outcome c.self.inside.counts c.count.new.self c.self.invariant.counted c.count.ensures unset;
    })

pub returns-clause-table : goal.returns-clause-table
returns-clause-table g c = rw (c.and.ensures.items, ← c.self.view_is) (table-set c.self.inside.rows (items c.self.inside.told) c.args.row c.args.outcome)

pub returns-clause-goes_on : goal.returns-clause-goes_on
returns-clause-goes_on g c =
    rw (← c.self.view_is) (record {
      added = (c.args.row, c.args.outcome) ∷ [];
      told = c.and.ensures.items;
      snapshots = refl;
      rows = refl;
      prints = refl;
      heard = heard-one c.self.inside.heard;
      printing = λ before first h.
          rw c.and.ensures.items (c.print_line-self-inside.ensures.printed before first (items c.self.inside.told) (items c.self.inside.snapshots) (rw c.deref_mut.ensures.value h));
    })
