use Rattle.std.proofs.Common.{arith}
use Rattle.bank_timing.proofs.Sizes.{timed_fits, bank_fits, regs_fits}
use Rattle.disk_lines.proofs.rows.holds_all.Goals as goal

pub bank-requires : goal.bank-requires
bank-requires g c = (timed_fits g.row.B g.row.M g.row.E c.requires.layout, bank_fits c.requires.layout)

pub kept-kept-requires : goal.kept-kept-requires
kept-kept-requires g c = (bank_fits c.requires.layout, omega arith)

pub regs-requires : goal.regs-requires
regs-requires g c = (timed_fits g.row.B g.row.M g.row.E c.requires.layout, regs_fits g.row.B g.row.M g.row.E c.requires.layout)

pub halted-requires : goal.halted-requires
halted-requires g c = regs_fits g.row.B g.row.M g.row.E c.requires.layout
