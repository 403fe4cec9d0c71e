use Rattle.ecp_line.proofs.Sizes.{layout_128, layout_64}
use Rattle.stream_top.proofs.program.stream_on.Goals as goal

pub stream-requires-clause-layout : goal.stream-requires-clause-layout
stream-requires-clause-layout g c = layout_64

pub stream-requires-in-Bytes128-clause-layout : goal.stream-requires-in-Bytes128-clause-layout
stream-requires-in-Bytes128-clause-layout g c = layout_128
