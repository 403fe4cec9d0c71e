use Rattle.trace_gen.proofs.Read.{text_law}
use Rattle.trace_gen.proofs.laws.text_reads_back.Goals as goal

pub returns : goal.returns
returns c = text_law
