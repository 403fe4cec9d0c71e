use Rattle.std.proofs.Common.{◌≡◌, drop}
use Rattle.masked_bytes.specs.Entries.{layer_of}
use Rattle.protected_queue.proofs.queue.Queue.newest.Given as goal

abbrev pub invariant-loop-index : goal.invariant-loop-index
invariant-loop-index g l =
    (l.bytes ≡ (layer_of (drop l.index l.self-inside.ring.items) l.line).bytes) × (l.given ≡ (layer_of (drop l.index l.self-inside.ring.items) l.line).given)
