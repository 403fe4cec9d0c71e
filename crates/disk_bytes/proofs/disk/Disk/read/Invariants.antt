use Rattle.std.proofs.Common.{◌≡◌, ℕ, ◌+◌, ◌-◌, ◌<◌, ◌≤◌, length, get_or}
use Rattle.atomic_sectors.specs.Lines.{stand}
use Rattle.disk_rules.specs.Standing.{byte_of}
use Rattle.disk_bytes.specs.Parts.{IsReady}
use Rattle.disk_bytes.proofs.disk.Disk.read.Given as goal

abbrev pub invariant-loop-done : goal.invariant-loop-done
invariant-loop-done g l = record {
  read : (i : ℕ) → i < l.done → get_or l.to i 0 ≡ byte_of g.row.B l.fn.self.layout (stand g.row.B (g.L.Lines.made l.fn.lines)) (l.at + i);
  within : l.done ≤ length l.fn.to;
  length : length l.to ≡ length l.fn.to;
  ready : IsReady g.row.B (g.L.Lines.made l.fn.lines) l.self;
  layout : l.self.layout ≡ l.fn.self.layout;
  made : g.L.Lines.made l.lines ≡ g.L.Lines.made l.fn.lines;
  stops : g.L.Lines.stops l.fn.lines ≤ g.L.Lines.stops l.lines;
  kind : g.L.Lines.kind l.lines ≡ g.L.Lines.kind l.fn.lines;
}

abbrev pub decreases-loop-done : goal.decreases-loop-done
decreases-loop-done g l = length l.to - l.done
