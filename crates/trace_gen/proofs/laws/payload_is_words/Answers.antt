use Rattle.trace_gen.proofs.Words.{payload_law}
use Rattle.trace_gen.proofs.laws.payload_is_words.Goals as goal

pub returns : goal.returns
returns c = payload_law
