use Rattle.std.proofs.Common.{refl, ap}
use Rattle.power_recovery.specs.Kept.{KeptState}
use Rattle.bank_core.proofs.{Restored.IsBank-by_shape, Sizes.kept_fits}
use Rattle.bank_core.proofs.bank.Bank.strip.Goals as goal

pub strip-requires : goal.strip-requires
strip-requires g c = kept_fits

pub invariant_of-self : goal.invariant_of-self
invariant_of-self g c =
    IsBank-by_shape g.row.M g.row.E c.self.inside.kept c.strip.new.self c.self.inside.waiting.items _ _
    (ap (λ (k : KeptState g.row.B). k.shape) c.strip.ensures.kept)
    c.strip.ensures.in_range c.self.invariant

pub returns-clause-bank : goal.returns-clause-bank
returns-clause-bank g c = rw (← c.self.view_is, c.strip.ensures.kept) refl

pub returns-clause-in_range : goal.returns-clause-in_range
returns-clause-in_range g c = c.strip.ensures.in_range
