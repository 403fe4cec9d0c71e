use Rattle.bank_timing.proofs.Queued.{QueuedSoFar}
use Rattle.bank_timing.proofs.draining.leave_queued.Given as goal

abbrev pub invariant-loop-index : goal.invariant-loop-index
invariant-loop-index g l = QueuedSoFar l.kept.entries l.arrivals.items (g.R.Outcomes.table l.fn.results) l.index (g.R.Outcomes.table l.results)
    × g.R.Outcomes.goes_on l.fn.results l.results
