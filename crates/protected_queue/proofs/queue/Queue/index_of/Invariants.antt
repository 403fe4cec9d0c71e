use Rattle.std.proofs.Common.{◌≡◌, drop, None}
use Rattle.masked_bytes.specs.Entries.{newest_index}
use Rattle.protected_queue.proofs.queue.Queue.index_of.Given as goal

abbrev pub invariant-loop-index : goal.invariant-loop-index
invariant-loop-index g l = newest_index (drop l.index l.self-inside.ring.items) l.line ≡ None
