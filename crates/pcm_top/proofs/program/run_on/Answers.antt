use Rattle.ecp_line.proofs.Sizes.{layout_128, layout_64}
use Rattle.pcm_top.proofs.program.run_on.Goals as goal

pub run-requires-clause-layout : goal.run-requires-clause-layout
run-requires-clause-layout g c = layout_64

pub run-requires-in-Bytes128-clause-layout : goal.run-requires-in-Bytes128-clause-layout
run-requires-in-Bytes128-clause-layout g c = layout_128
