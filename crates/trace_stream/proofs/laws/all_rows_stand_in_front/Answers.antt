use Rattle.trace_stream.proofs.Fronts.{whole-front}
use Rattle.trace_stream.proofs.laws.all_rows_stand_in_front.Goals as goal

pub returns : goal.returns
returns c = whole-front
