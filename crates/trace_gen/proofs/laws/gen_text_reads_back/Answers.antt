use Rattle.trace_gen.proofs.Lawful.{generated_text_law}
use Rattle.trace_gen.proofs.laws.gen_text_reads_back.Goals as goal

pub returns : goal.returns
returns c = generated_text_law
