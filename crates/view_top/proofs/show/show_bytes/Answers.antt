use Rattle.ecp_line.proofs.Sizes.{layout_128, layout_64}
use Rattle.view_top.proofs.show.show_bytes.Goals as goal

pub show_lines-requires-clause-layout : goal.show_lines-requires-clause-layout
show_lines-requires-clause-layout g c = layout_64

pub show_lines-requires-in_default-clause-layout : goal.show_lines-requires-in_default-clause-layout
show_lines-requires-in_default-clause-layout g c = layout_128
