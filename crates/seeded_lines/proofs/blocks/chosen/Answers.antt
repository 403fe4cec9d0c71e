use Rattle.std.proofs.Common.{arith}
use Rattle.cell_rows.proofs.ByteLemmas.{digit_choice}
use Rattle.seeded_lines.proofs.blocks.chosen.Goals as goal

pub returns-clause-bits : goal.returns-clause-bits
returns-clause-bits c i = digit_choice c.args.bits c.args.mask c.args.want i

pub returns-clause-is : goal.returns-clause-is
returns-clause-is c = grind arith
