use Rattle.wear_totals.proofs.Keeping.{totals-fresh}
use Rattle.wear_totals.proofs.walk.fresh.Goals as goal

pub returns-clause-is : goal.returns-clause-is
returns-clause-is g c =
    totals-fresh g.row.E (g.A.CellArray.state c.args.array.now) c.requires.blank c.sum_energy.result c.lines-lines.result c.sum_energy.ensures c.lines-lines.ensures
