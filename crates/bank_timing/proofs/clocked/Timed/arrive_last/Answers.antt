use Rattle.std.proofs.Common.{◌<◌, length, arith}
use Rattle.std.proofs.lemmas.Bool.{false≢true}
use Rattle.bank_timing.proofs.clocked.Timed.arrive_last.Goals as goal

pub unreachable-requires : goal.unreachable-requires
unreachable-requires g c =
    let room = rw (← c.self.view_is) at c.requires.room in
    let few : length c.self.inside.arrivals.items < c.self.inside.arrivals.capacity = omega (arith, room, c.self.invariant.room) in
    false≢true (c.in-Err.ensures.variant.1 few)

pub unreachable-unreachable : goal.unreachable-unreachable
unreachable-unreachable g c = c.unreachable.result

pub invariant_of-self : goal.invariant_of-self
invariant_of-self g c = grind arith

pub returns : goal.returns
returns g c = grind arith
