use Rattle.std.proofs.Common.{length, take, ◌-◌, ◌≡◌, ◌≤◌}
use Rattle.pcm_io.specs.Taking.{Takes}
use Rattle.disk_server.proofs.reading.fill.Given as goal

abbrev pub invariant-loop-done : goal.invariant-loop-done
invariant-loop-done g l = record {
  within : l.done ≤ length l.buffer;
  taken : Takes (g.S.Source.left l.fn.source) (g.S.Source.left l.source) (g.S.Source.taken l.fn.source) (g.S.Source.taken l.source) (take l.done l.buffer);
  faults : g.S.Source.faults l.source ≡ g.S.Source.faults l.fn.source;
}

abbrev pub decreases-loop-done : goal.decreases-loop-done
decreases-loop-done g l = length l.buffer - l.done
