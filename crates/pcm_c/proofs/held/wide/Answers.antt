use Rattle.std.proofs.Common.{lit<, lit≤}
use Rattle.ecp_line.proofs.Sizes.{layout_128}
use Rattle.pcm_c.proofs.held.wide.Goals as goal

pub new-requires-2 : goal.new-requires-2
new-requires-2 c = (lit< tt, (layout_128, (λ home. lit≤ tt, c.requires)))
