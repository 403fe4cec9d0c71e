use Rattle.judged_runs.proofs.JudgedRuns.{may_stand_law}
use Rattle.judged_runs.proofs.outcomes_of_runs_may_stand.Goals as goal

pub returns : goal.returns
returns c =
    may_stand_law c.rows_have_their_own_outcomes.ensures c.places_are_array_lines.ensures c.array_lines_are_few.ensures
    c.outcomes_come_soon.ensures c.right_runs_keep_the_rules.ensures
