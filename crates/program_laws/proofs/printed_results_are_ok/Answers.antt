use Rattle.std.proofs.Common.{arith}
use Rattle.program_laws.proofs.CheckedRuns.{checked-law}
use Rattle.program_laws.proofs.printed_results_are_ok.Goals as goal

pub returns : goal.returns
returns c =
    checked-law c.gen_text_reads_back.ensures c.gen_text_is_short.ensures c.right_runs_are_judged_ok.ensures c.printed_results_are_short.ensures

pub gen_text_reads_back-requires : goal.gen_text_reads_back-requires
gen_text_reads_back-requires c = grind arith

pub gen_text_is_short-requires : goal.gen_text_is_short-requires
gen_text_is_short-requires c = grind arith

pub printed_results_are_short-requires : goal.printed_results_are_short-requires
printed_results_are_short-requires c = grind arith

pub right_runs_are_judged_ok-requires : goal.right_runs_are_judged_ok-requires
right_runs_are_judged_ok-requires c = grind arith
