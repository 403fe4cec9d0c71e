use Rattle.parted_streams.proofs.OneStream.{one_stream_law}
use Rattle.parted_streams.proofs.a_stream_is_its_only_part.Goals as goal

pub returns : goal.returns
returns c = one_stream_law
