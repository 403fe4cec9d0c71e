use Rattle.stream_laws.proofs.Texts.{drawn_law}
use Rattle.stream_laws.proofs.drawn_traces_are_streams.Goals as goal

pub returns : goal.returns
returns c = drawn_law
