use Rattle.std.proofs.Common.{arith}
use Rattle.program_laws.proofs.DrawnRuns.{drawn-law}
use Rattle.program_laws.proofs.drawn_runs_are_runs_of_their_text.Goals as goal

pub returns : goal.returns
returns c = drawn-law c.gen_text_reads_back.ensures c.gen_text_is_short.ensures

pub gen_text_reads_back-requires : goal.gen_text_reads_back-requires
gen_text_reads_back-requires c = grind arith

pub gen_text_is_short-requires : goal.gen_text_is_short-requires
gen_text_is_short-requires c = grind arith
