use Rattle.parted_streams.proofs.Streamed.{parted_streams_law}
use Rattle.parted_streams.proofs.streams_of_parts_are_one_run.Goals as goal

pub returns : goal.returns
returns c = parted_streams_law c.parts_are_one_run.ensures
