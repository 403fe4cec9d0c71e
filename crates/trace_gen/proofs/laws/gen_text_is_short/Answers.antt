use Rattle.trace_gen.proofs.Sizes.{generated_size_law}
use Rattle.trace_gen.proofs.laws.gen_text_is_short.Goals as goal

pub returns : goal.returns
returns c = generated_size_law
