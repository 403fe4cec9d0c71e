use Rattle.std.proofs.Common.{lit<}
use Rattle.power_recovery.proofs.Bundle.{head-below}
use Rattle.power_recovery.proofs.kept.Kept.next_work.Goals as goal

pub slot_of-requires : goal.slot_of-requires
slot_of-requires g c =
    (lit< tt, rw (← c.self.view_is) (head-below c.self.inside.queue.entries _ c.in-Some-head.head.now c.self.invariant.1.known c.in-Some-head.ensures))
