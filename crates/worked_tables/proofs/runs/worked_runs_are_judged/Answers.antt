use Rattle.worked_tables.proofs.SmallRun.{is_right, stale_is_wrong, misplaced_is_wrong, touched_is_wrong, forgotten_is_wrong, hammered_is_wrong, strained_is_wrong}
use Rattle.worked_tables.proofs.runs.worked_runs_are_judged.Goals as goal

pub returns : goal.returns
returns c = record {
  right = is_right;
  stale = stale_is_wrong;
  misplaced = misplaced_is_wrong;
  touched = touched_is_wrong;
  forgotten = forgotten_is_wrong;
  hammered = hammered_is_wrong;
  strained = strained_is_wrong;
}
