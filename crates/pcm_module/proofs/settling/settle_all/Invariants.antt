use Rattle.std.proofs.Common.{◌<◌, false}
use Rattle.pcm_module.specs.{Settling.{MaySettle, AreSettled}, State.ModuleState, Telling.{TellsByBanks, rows_at}}
use Rattle.pcm_module.proofs.settling.settle_all.Given as goal

abbrev pub invariant-loop-bank : goal.invariant-loop-bank
invariant-loop-bank g l =
    ((of : ModuleState g.row.B g.row.M g.row.E) → MaySettle l.tick of l.fn.banks.items (g.A.CellArray.state l.fn.array) (g.R.Outcomes.table l.fn.results)
    → AreSettled l.tick of (λ bank. bank < l.bank) l.banks.items (g.A.CellArray.state l.fn.array) (g.A.CellArray.state l.array) (g.R.Outcomes.table l.fn.results) (g.R.Outcomes.table l.results))
    × g.R.Outcomes.goes_on l.fn.results l.results
    × ((of : ModuleState g.row.B g.row.M g.row.E) → MaySettle l.tick of l.fn.banks.items (g.A.CellArray.state l.fn.array) (g.R.Outcomes.table l.fn.results)
    → TellsByBanks g.R.Outcomes.goes_on g.R.Outcomes.table false (rows_at of) l.bank l.fn.results l.results)
