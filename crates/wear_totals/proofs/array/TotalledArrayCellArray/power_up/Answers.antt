use Rattle.wear_totals.proofs.Keeping.{either-blank}
use Rattle.wear_totals.proofs.array.TotalledArrayCellArray.power_up.Goals as goal

pub powered-self-inside-requires-clause-blank : goal.powered-self-inside-requires-clause-blank
powered-self-inside-requires-clause-blank g c =
    either-blank (g.A.CellArray.state c.power_up-result.new.self) c.args.lines c.args.wear c.power_up-result.result c.power_up-result.ensures.ok c.power_up-result.ensures.err
