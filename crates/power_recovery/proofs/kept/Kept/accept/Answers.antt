use Rattle.std.proofs.Common.{refl}
use Rattle.power_recovery.proofs.Bundle.{IsKept-accepted}
use Rattle.power_recovery.proofs.kept.Kept.accept.Goals as goal

pub invariant_of-self : goal.invariant_of-self
invariant_of-self g c =
    let exists = rw (← c.self.view_is) at c.requires.exists in
    rw (c.accept.ensures.entries, c.self.invariant.0) (refl, IsKept-accepted _ c.args.head_busy c.args.entry c.self.invariant.1 c.requires.masked exists)

pub returns-clause-in_range : goal.returns-clause-in_range
returns-clause-in_range g c =
    let exists = rw (← c.self.view_is) at c.requires.exists in
    rw (c.accept.ensures.entries, c.self.invariant.0) (IsKept-accepted _ c.args.head_busy c.args.entry c.self.invariant.1 c.requires.masked exists)
