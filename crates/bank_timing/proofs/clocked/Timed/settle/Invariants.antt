use Rattle.std.proofs.Common.{◌+◌, ◌*◌, ◌^◌, ◌≤◌}
use Rattle.clock_laws.specs.Remaining.{actions_left}
use Rattle.bank_timing.specs.{Extending.RunsDown, Telling.TellsUpTo}
use Rattle.bank_timing.proofs.clocked.Timed.settle.Given as goal

abbrev pub invariant-loop-action : goal.invariant-loop-action
invariant-loop-action g l =
    RunsDown l.fn.self l.self (g.A.CellArray.state l.fn.array) (g.A.CellArray.state l.array) (g.R.Outcomes.table l.fn.results) (g.R.Outcomes.table l.results)
    × (l.self.tick + 255 * actions_left l.self.bank l.self.regs ≤ 2 ^ 41)
    × g.R.Outcomes.goes_on l.fn.results l.results
    × TellsUpTo g.R.Outcomes.goes_on g.R.Outcomes.table l.self.tick l.fn.results l.results

abbrev pub decreases-loop-action : goal.decreases-loop-action
decreases-loop-action g l = actions_left l.self.bank l.self.regs
