use Rattle.std.proofs.Common.{length, ap, arith}
use Rattle.row_printer.proofs.Growing.{once-wider, table-longer}
use Rattle.ghost_list.specs.Items.{items}
use Rattle.pcm_library.proofs.keeper.Keeper.add_row.Goals as goal

pub invariant_of-self : goal.invariant_of-self
invariant_of-self g c =
    let same = ap length c.reserve.ensures.items in
    record {
      few = c.self.invariant.few;
      once = c.self.invariant.once;
      counted = c.self.invariant.counted;
      fits = omega (arith, same, c.self.invariant.fits, c.reserve.ensures.capacity);
      least = omega (arith, c.self.invariant.least, c.reserve.ensures.capacity);
      whole = rw c.reserve.ensures.items c.self.invariant.whole;
    }

pub invariant_of-self-2 : goal.invariant_of-self-2
invariant_of-self-2 g c = record {
  few = c.self.invariant.few;
  once = once-wider c.self.inside.rows _ c.self.invariant.once;
  counted = omega (arith, c.self.invariant.counted);
  fits = omega (arith, c.in_ok-reserve.ensures.ok, c.reserve.new.self.ok.0);
  least = omega (arith, c.self.invariant.least, c.reserve.ensures.capacity);
  whole = rw c.reserve.ensures.items c.self.invariant.whole;
}

pub returns-clause-table : goal.returns-clause-table
returns-clause-table g c = rw (← c.self.view_is) (table-longer c.self.inside.rows (items c.self.inside.told) c.self.invariant.once)
