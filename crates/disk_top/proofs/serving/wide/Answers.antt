use Rattle.std.proofs.Common.{lit<, lit≤}
use Rattle.ecp_line.proofs.Sizes.{layout_128}
use Rattle.disk_top.proofs.serving.wide.Goals as goal

pub new-requires : goal.new-requires
new-requires c = (lit< tt, (layout_128, (λ home. lit≤ tt, c.requires.plan.wear)))
