use Rattle.std.proofs.Common.{refl, ap}
use Rattle.power_recovery.specs.Kept.{KeptState}
use Rattle.bank_core.proofs.{Restored.IsBank-by_shape, Sizes.kept_fits}
use Rattle.bank_core.proofs.bank.Bank.restore_region.Goals as goal

pub restore_region-requires : goal.restore_region-requires
restore_region-requires g c = (
  kept_fits,
  (
    rw (← c.self.view_is) at c.requires.exists,
    (
      rw (← c.self.view_is) at c.requires.start,
      (
        rw (← c.self.view_is) at c.requires.gap,
        (rw (← c.self.view_is) at c.requires.counter, rw (← c.self.view_is) at c.requires.one_due),
      ),
    ),
  ),
)

pub invariant_of-self : goal.invariant_of-self
invariant_of-self g c =
    IsBank-by_shape g.row.M g.row.E c.self.inside.kept c.restore_region.new.self c.self.inside.waiting.items _ _
    (ap (λ (k : KeptState g.row.B). k.shape) c.restore_region.ensures.kept)
    c.restore_region.ensures.in_range c.self.invariant

pub returns-clause-bank : goal.returns-clause-bank
returns-clause-bank g c = rw (← c.self.view_is, c.restore_region.ensures.kept) refl

pub returns-clause-in_range : goal.returns-clause-in_range
returns-clause-in_range g c = c.restore_region.ensures.in_range
