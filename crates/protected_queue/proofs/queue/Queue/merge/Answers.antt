use Rattle.std.proofs.Common.{sym}
use Rattle.masked_bytes.proofs.Queueing.{row_at-slice_get}
use Rattle.protected_queue.proofs.Accepting.{merged-written, IsQueue-merged_at}
use Rattle.protected_queue.proofs.queue.Queue.merge.Goals as goal

pub invariant_of-self : goal.invariant_of-self
invariant_of-self g c =
    rw (merged-written c.self.inside.ring.items c.args.index _ _ _ _ _ c.in-Some.ensures.value c.lay_on.ensures)
    (IsQueue-merged_at c.self.inside.ring.items c.self.inside.ring.capacity c.args.index _ _ _ c.requires.masked c.self.invariant)

pub returns-clause-row : goal.returns-clause-row
returns-clause-row g c = rw (← c.self.view_is) (sym (row_at-slice_get c.self.inside.ring.items c.args.index _ (sym c.in-Some.ensures.value)))

pub returns-clause-entries : goal.returns-clause-entries
returns-clause-entries g c =
    rw (← c.self.view_is) (rw (merged-written c.self.inside.ring.items c.args.index _ _ _ _ _ c.in-Some.ensures.value c.lay_on.ensures))
