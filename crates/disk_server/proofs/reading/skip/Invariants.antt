use Rattle.std.proofs.Common.{ℕ, List, length, ◌-◌, ◌≡◌, ◌≤◌}
use Rattle.pcm_io.specs.Taking.{Takes}
use Rattle.disk_server.proofs.reading.skip.Given as goal

abbrev pub invariant-loop-done : goal.invariant-loop-done
invariant-loop-done g l = record {
  within : l.done ≤ l.count;
  size : length l.piece ≡ 4096;
  taken : (bytes : List ℕ) × (length bytes ≡ l.done)
      × Takes (g.S.Source.left l.fn.source) (g.S.Source.left l.source) (g.S.Source.taken l.fn.source) (g.S.Source.taken l.source) bytes;
  faults : g.S.Source.faults l.fn.source ≤ g.S.Source.faults l.source;
}

abbrev pub decreases-loop-done : goal.decreases-loop-done
decreases-loop-done g l = l.count - l.done
