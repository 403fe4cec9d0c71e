use Rattle.trace_gen.proofs.Read.{row_law}
use Rattle.trace_gen.proofs.laws.row_reads_back.Goals as goal

pub returns : goal.returns
returns c = row_law
