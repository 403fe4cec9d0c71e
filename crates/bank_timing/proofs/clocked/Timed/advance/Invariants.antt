use Rattle.std.proofs.Common.{◌≡◌, ◌-◌, ◌≤◌}
use Rattle.bank_timing.specs.{Extending.RunsOn, Telling.TellsUpTo}
use Rattle.bank_timing.proofs.clocked.Timed.advance.Given as goal

abbrev pub invariant-loop-self : goal.invariant-loop-self
invariant-loop-self g l =
    RunsOn l.fn.self l.self (g.A.CellArray.state l.fn.array) (g.A.CellArray.state l.array) (g.R.Outcomes.table l.fn.results) (g.R.Outcomes.table l.results)
    × (l.self.tick ≤ l.to) × (l.self.drained ≡ l.fn.self.drained) × g.R.Outcomes.goes_on l.fn.results l.results
    × TellsUpTo g.R.Outcomes.goes_on g.R.Outcomes.table l.self.tick l.fn.results l.results

abbrev pub decreases-loop-self : goal.decreases-loop-self
decreases-loop-self g l = l.to - l.self.tick
