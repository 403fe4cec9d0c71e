use Rattle.std.proofs.Common.{◌≡◌, ◌-◌, length}
use Rattle.disk_lines.specs.{Asking.{HasHeard, IsLater, SameLines, most_rows}, Hearing.events_in}
use Rattle.disk_lines.specs.Lines.{kind_at}
use Rattle.disk_lines.proofs.rows.RunningModule.read.Given as goal

abbrev pub invariant-asks : goal.invariant-asks
invariant-asks g l = record {
  has : HasHeard l.self.module (g.A.CellArray.state l.self.array) l.self.watch.heard;
  later : IsLater l.fn.self.module l.self.module l.fn.self.watch.heard l.self.watch.heard;
  kind : kind_at l.self.module (g.A.CellArray.state l.self.array) l.self.watch.heard l.self.cuts
      ≡ kind_at l.fn.self.module (g.A.CellArray.state l.fn.self.array) l.fn.self.watch.heard l.fn.self.cuts;
  same : SameLines l.fn.self.module l.self.module l.fn.self.watch.heard l.self.watch.heard;
}

abbrev pub decreases-asks : goal.decreases-asks
decreases-asks g l = most_rows - length (events_in l.self.watch.heard)
