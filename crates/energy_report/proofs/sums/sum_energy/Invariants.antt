use Rattle.std.proofs.Common.{◌≡◌}
use Rattle.energy_report.specs.Sums.{energy_of}
use Rattle.energy_report.proofs.sums.sum_energy.Given as goal

-- the lines so far are summed
abbrev pub invariant-loop-line : goal.invariant-loop-line
invariant-loop-line g l = l.sum ≡ energy_of (g.A.CellArray.state l.array).energy l.from l.line
