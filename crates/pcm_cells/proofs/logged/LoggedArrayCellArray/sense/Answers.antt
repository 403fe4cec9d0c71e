use Rattle.std.proofs.Common.{arith}
use Rattle.pcm_cells.proofs.logged.LoggedArrayCellArray.sense.Goals as goal

pub sense-requires : goal.sense-requires
sense-requires g c = grind arith

pub invariant_of-self : goal.invariant_of-self
invariant_of-self g c = grind arith

pub pulses-requires : goal.pulses-requires
pulses-requires g c = grind arith

pub keep-requires : goal.keep-requires
keep-requires g c = grind arith

pub returns-clause-cells : goal.returns-clause-cells
returns-clause-cells g c = grind arith

pub returns-clause-step : goal.returns-clause-step
returns-clause-step g c = grind arith

pub returns-clause-log : goal.returns-clause-log
returns-clause-log g c = grind arith

pub returns-clause-passed : goal.returns-clause-passed
returns-clause-passed g c = grind arith

pub returns-clause-cap : goal.returns-clause-cap
returns-clause-cap g c = grind arith
