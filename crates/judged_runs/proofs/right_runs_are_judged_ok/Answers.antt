use Rattle.judged_runs.proofs.JudgedRuns.{judged_runs_law}
use Rattle.judged_runs.proofs.right_runs_are_judged_ok.Goals as goal

pub returns : goal.returns
returns c =
    judged_runs_law c.right_runs_get_yes.ensures c.outcomes_of_runs_may_stand.ensures c.results_begin_behind_their_trace.ensures
    c.printed_results_are_read.ensures c.results_are_read_once.ensures
