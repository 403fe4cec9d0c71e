use Rattle.protected_queue.proofs.Accepting.{completed-written, IsQueue-completed}
use Rattle.protected_queue.proofs.queue.Queue.complete.Goals as goal

pub invariant_of-self : goal.invariant_of-self
invariant_of-self g c =
    rw (completed-written c.self.inside.ring.items c.args.under.now _ _ c.in-Some.ensures.value c.complete.ensures)
    (IsQueue-completed c.self.inside.ring.items c.self.inside.ring.capacity c.args.under.now c.told-under c.self.invariant)
