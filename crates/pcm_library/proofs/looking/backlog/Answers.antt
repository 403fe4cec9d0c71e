use Rattle.std.proofs.Common.{arith}
use Rattle.bank_timing.proofs.Sizes.{timed_fits, bank_fits, regs_fits}
use Rattle.pcm_library.proofs.looking.backlog.Goals as goal

pub bank-inside-requires : goal.bank-inside-requires
bank-inside-requires g c = (timed_fits g.row.B g.row.M g.row.E c.requires.layout, bank_fits c.requires.layout)

pub kept-kept-requires : goal.kept-kept-requires
kept-kept-requires g c = (bank_fits c.requires.layout, omega arith)

pub waiting-requires : goal.waiting-requires
waiting-requires g c = bank_fits c.requires.layout

pub regs-requires : goal.regs-requires
regs-requires g c = (timed_fits g.row.B g.row.M g.row.E c.requires.layout, regs_fits g.row.B g.row.M g.row.E c.requires.layout)

pub halted-requires : goal.halted-requires
halted-requires g c = regs_fits g.row.B g.row.M g.row.E c.requires.layout
