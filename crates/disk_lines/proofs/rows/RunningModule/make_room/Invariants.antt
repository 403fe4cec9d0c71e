use Rattle.std.proofs.Common.{◌≡◌, ◌-◌}
use Rattle.trace_reader.specs.Rows.{latest_tick}
use Rattle.disk_lines.specs.Asking.{HasHeard, IsLater, SameLines}
use Rattle.disk_lines.specs.Lines.{kind_at}
use Rattle.disk_lines.proofs.rows.RunningModule.make_room.Given as goal

abbrev pub invariant-rooms : goal.invariant-rooms
invariant-rooms g l = record {
  has : HasHeard l.self.module (g.A.CellArray.state l.self.array) l.self.watch.heard;
  later : IsLater l.fn.self.module l.self.module l.fn.self.watch.heard l.self.watch.heard;
  kind : kind_at l.self.module (g.A.CellArray.state l.self.array) l.self.watch.heard l.self.cuts
      ≡ kind_at l.fn.self.module (g.A.CellArray.state l.fn.self.array) l.fn.self.watch.heard l.fn.self.cuts;
  same : SameLines l.fn.self.module l.self.module l.fn.self.watch.heard l.self.watch.heard;
}

abbrev pub decreases-rooms : goal.decreases-rooms
decreases-rooms g l = latest_tick - l.self.module.tick
