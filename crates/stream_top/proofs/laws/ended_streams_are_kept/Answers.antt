use Rattle.stream_top.proofs.Leaving.{leaves-law}
use Rattle.stream_top.proofs.laws.ended_streams_are_kept.Goals as goal

pub returns : goal.returns
returns c =
    leaves-law c.sensed_runs_stay_right.ensures c.sensed_stops_stay_right.ensures c.images_are_of_their_runs.ensures c.stopped_images_are_of_their_runs.ensures
    c.lines_have_one_role.ensures
