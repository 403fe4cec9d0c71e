use Rattle.stream_laws.proofs.Texts.{text_law}
use Rattle.stream_laws.proofs.texts_are_streams.Goals as goal

pub returns : goal.returns
returns c = text_law
