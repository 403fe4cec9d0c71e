use Rattle.std.proofs.Common.{[], ◌∷◌, ◌∙◌, refl}
use Rattle.row_printer.{specs.declared.told.Told.TheVariants.Settled, proofs.Telling.outcomes-same}
use Rattle.ghost_list.specs.Items.{items}
use Rattle.pcm_library.proofs.keeper.Keeper.settled.Goals as goal

pub invariant_of-self : goal.invariant_of-self
invariant_of-self g c =
    let same = outcomes-same (items c.self.inside.told) (Settled c.args.tick ∷ []) refl in
    rw c.and.ensures.items (record {
      few = c.self.invariant.few;
      once = rw same c.self.invariant.once;
      counted = rw same c.self.invariant.counted;
      fits = c.self.invariant.fits;
      least = c.self.invariant.least;
      whole = same ∙ c.self.invariant.whole;
    })
