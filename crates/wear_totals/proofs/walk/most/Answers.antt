use Rattle.std.proofs.Common.{sym}
use Rattle.cell_rows.proofs.Most.{most-zero}
use Rattle.wear_totals.proofs.Sums.{most-on}
use Rattle.wear_totals.proofs.walk.most.Goals as goal

pub loop-line-init : goal.loop-line-init
loop-line-init g c = sym (most-zero _)

pub loop-line-preserved : goal.loop-line-preserved
loop-line-preserved g c =
    most-on (λ line. ((g.A.CellArray.state c.args.array.now).line line).pulses) c.loop-line.line c.loop-line.most c.pulses.result c.max-most.result
    c.loop-line.invariant c.pulses.ensures c.max-most.ensures
