use Rattle.start_gap.proofs.{Places.{places-end, places-further}, Turning.{stands-end, stands-further}}
use Rattle.start_gap.proofs.Registers.advance.Goals as goal

pub returns-then-self-eq0-clause-counted : goal.returns-then-self-eq0-clause-counted
returns-then-self-eq0-clause-counted c =
    rw (← c.self.view_is) (λ t stands. stands-end _ t c.self.invariant c.if-self-eq0.true stands)

pub returns-else-self-eq0-clause-counted : goal.returns-else-self-eq0-clause-counted
returns-else-self-eq0-clause-counted c =
    rw (← c.self.view_is) (λ t stands. stands-further _ t c.self.invariant c.if-self-eq0.false stands)

pub returns-then-self-eq0-clause-places : goal.returns-then-self-eq0-clause-places
returns-then-self-eq0-clause-places c = rw (← c.self.view_is) (places-end _ c.self.invariant c.if-self-eq0.true)

pub returns-else-self-eq0-clause-places : goal.returns-else-self-eq0-clause-places
returns-else-self-eq0-clause-places c = rw (← c.self.view_is) (places-further _ c.self.invariant c.if-self-eq0.false)
