use Rattle.std.proofs.Common.{refl}
use Rattle.bank_timing.proofs.Queued.{not-past}
use Rattle.bank_timing.proofs.clocked.Timed.arrive_again.Goals as goal

pub invariant_of-self : goal.invariant_of-self
invariant_of-self g c = c.self.invariant

pub unreachable-requires : goal.unreachable-requires
unreachable-requires g c =
    let there = rw (← c.self.view_is) at c.requires.there in
    not-past c.self.inside.arrivals.items c.args.index there (rw c.in_default.is at c.get_mut.follows)

pub unreachable-unreachable : goal.unreachable-unreachable
unreachable-unreachable g c = c.unreachable.result

pub returns : goal.returns
returns g c = rw (← c.self.view_is) refl
