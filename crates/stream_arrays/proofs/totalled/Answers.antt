use Rattle.std.proofs.Common.{arith}
use Rattle.ecp_line.proofs.Sizes.{layout_128, layout_64}
use Rattle.stream_arrays.proofs.totalled.Goals as goal

pub with_totals-requires : goal.with_totals-requires
with_totals-requires c = (omega arith, layout_64)

pub with_totals-requires-then-keeps : goal.with_totals-requires-then-keeps
with_totals-requires-then-keeps c = (omega arith, layout_128)
