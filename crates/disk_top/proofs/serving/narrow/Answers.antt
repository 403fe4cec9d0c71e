use Rattle.std.proofs.Common.{lit<, lit≤}
use Rattle.ecp_line.proofs.Sizes.{layout_64}
use Rattle.disk_top.proofs.serving.narrow.Goals as goal

pub new-requires : goal.new-requires
new-requires c = (lit< tt, (layout_64, (λ home. lit≤ tt, c.requires.plan.wear)))
