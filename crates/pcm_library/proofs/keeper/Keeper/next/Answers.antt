use Rattle.std.proofs.Common.{◌++◌, ◌∙◌, length, ap, arith}
use Rattle.pcm_library.{specs.Keeping.kept_pairs, proofs.Keeping.pairs-shift}
use Rattle.ghost_list.specs.Items.{items}
use Rattle.pcm_library.proofs.keeper.Keeper.next.Goals as goal

pub invariant_of-self : goal.invariant_of-self
invariant_of-self g c =
    let taken = items c.self.inside.taken in
    let first = ap length c.in-Some.ensures.items in
    record {
      few = c.self.invariant.few;
      once = c.self.invariant.once;
      counted = c.self.invariant.counted;
      fits = omega (arith, c.self.invariant.fits, c.pop_front.ensures.capacity, first);
      least = omega (arith, c.self.invariant.least, c.pop_front.ensures.capacity);
      whole =
          rw c.and.ensures.items
          (c.self.invariant.whole ∙ ap (λ w. kept_pairs taken ++ kept_pairs w) c.in-Some.ensures.items
          ∙ pairs-shift taken c.in-Some.kept c.pop_front.new.self.items);
    }
