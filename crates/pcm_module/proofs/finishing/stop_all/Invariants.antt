use Rattle.cell_rows.specs.Device.{ArrayState}
use Rattle.std.proofs.Common.{true}
use Rattle.pcm_module.specs.{Draining.{MayFinish, AreDrained}, State.ModuleState, Telling.{TellsByBanks, rows_at}}
use Rattle.pcm_module.proofs.finishing.stop_all.Given as goal

abbrev pub invariant-loop-bank : goal.invariant-loop-bank
invariant-loop-bank g l =
    ((of : ModuleState g.row.B g.row.M g.row.E) (array : ArrayState g.row.B g.row.M) → MayFinish true of l.fn.banks.items array (g.R.Outcomes.table l.fn.results)
    → AreDrained true of l.bank l.banks.items array array (g.R.Outcomes.table l.fn.results) (g.R.Outcomes.table l.results))
    × g.R.Outcomes.goes_on l.fn.results l.results
    × ((of : ModuleState g.row.B g.row.M g.row.E) (array : ArrayState g.row.B g.row.M) → MayFinish true of l.fn.banks.items array (g.R.Outcomes.table l.fn.results)
    → TellsByBanks g.R.Outcomes.goes_on g.R.Outcomes.table true (rows_at of) l.bank l.fn.results l.results)
