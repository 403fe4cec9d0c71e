use Rattle.std.proofs.Common.{◌≡◌}
use Rattle.run_text.specs.Pulses.{at_most_u64, pulses_of_first}
use Rattle.run_text.proofs.pulses.sum_pulses.Given as goal

-- the lines so far are summed
abbrev pub invariant-loop-line : goal.invariant-loop-line
invariant-loop-line g l = l.sum ≡ at_most_u64 (pulses_of_first (g.A.CellArray.state l.array) l.line)
