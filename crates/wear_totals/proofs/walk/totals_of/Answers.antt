use Rattle.std.proofs.Common.{refl}
use Rattle.wear_totals.proofs.walk.totals_of.Goals as goal

pub returns-clause-is : goal.returns-clause-is
returns-clause-is g c = rw (c.sum_pulses-pulses.ensures, c.most.ensures, c.pointers.ensures, c.sum_energy.ensures, c.lines-lines.ensures) refl
