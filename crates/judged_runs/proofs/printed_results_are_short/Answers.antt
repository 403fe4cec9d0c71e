use Rattle.judged_runs.proofs.JudgedRuns.{short_law}
use Rattle.judged_runs.proofs.printed_results_are_short.Goals as goal

pub returns : goal.returns
returns c = short_law c.outcomes_of_runs_may_stand.ensures
