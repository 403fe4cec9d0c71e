use Rattle.start_gap.proofs.Turning.{gap-stands}
use Rattle.start_gap.proofs.Registers.gap.Goals as goal

pub returns-clause-after : goal.returns-clause-after
returns-clause-after c = rw (← c.self.view_is) (λ t stands. gap-stands _ t c.self.invariant stands)
