use Rattle.disk_lines.proofs.Staying.{kind-cut}
use Rattle.disk_lines.proofs.rows.RunningModule.cut.Goals as goal

pub returns-clause-kind : goal.returns-clause-kind
returns-clause-kind g c =
    let old = c.args.self.now in
    let now = c.hand_in.new.self in
    let state = g.A.CellArray.state in
    kind-cut old.module now.module (state old.array) (state now.array) old.watch now.watch old.cuts now.cuts c.hand_in.ensures.cuts c.hand_in.ensures.wear
    c.args.tick c.hand_in.ensures.takes c.requires.next
