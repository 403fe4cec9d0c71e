use Rattle.power_recovery.proofs.Bundle.{IsKept-completed}
use Rattle.power_recovery.proofs.kept.Kept.complete.Goals as goal

pub invariant_of-self : goal.invariant_of-self
invariant_of-self g c = rw c.complete.ensures (c.self.invariant.0, IsKept-completed _ c.args.under.now c.self.invariant.1 c.told-under)

pub returns-clause-in_range : goal.returns-clause-in_range
returns-clause-in_range g c = rw c.complete.ensures (IsKept-completed _ c.args.under.now c.self.invariant.1 c.told-under)
