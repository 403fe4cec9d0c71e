use Rattle.std.proofs.Common.{false}
use Rattle.pcm_module.{specs.Telling.{TellsByBanks, rows_at}, proofs.Cuts.IsCutting}
use Rattle.pcm_module.proofs.side_by_side.Module.cut.Given as goal

abbrev pub invariant-loop-bank : goal.invariant-loop-bank
invariant-loop-bank g l =
    let s = l.self-inside in
    IsCutting l.row l.tick l.bank s.shape s.seed s.feistel s.banks.items s.tick s.rows_below s.finished l.fn.self
    (g.A.CellArray.state l.fn.array) (g.A.CellArray.state l.array) (g.R.Outcomes.table l.fn.results) (g.R.Outcomes.table l.results)
    × g.R.Outcomes.goes_on l.fn.results l.results
    × TellsByBanks g.R.Outcomes.goes_on g.R.Outcomes.table false (rows_at l.fn.self) l.bank l.fn.results l.results
