use Rattle.std.proofs.Common.{arith}
use Rattle.bank_timing.proofs.Sizes.{timed_fits}
use Rattle.disk_lines.proofs.Asking.{bank-in-time}
use Rattle.disk_lines.proofs.rows.RunningModule.next_end.Goals as goal

pub timed-requires : goal.timed-requires
timed-requires g c = (omega arith, (timed_fits g.row.B g.row.M g.row.E c.requires.layout, c.requires.exists))

pub next_end-next-requires : goal.next_end-next-requires
next_end-next-requires g c = (
  timed_fits g.row.B g.row.M g.row.E c.requires.layout,
  bank-in-time c.args.self.now.module (g.A.CellArray.state c.args.self.now.array) c.args.self.now.watch.heard c.requires.has c.args.bank c.requires.exists c.timed.result.now c.timed.ensures,
)
