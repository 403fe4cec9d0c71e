use Rattle.std.proofs.Common.{◌≡◌, ◌++◌, length}
use Rattle.trace_gen.specs.Generated.{generated}
use Rattle.trace_gen.proofs.generator.generate.Given as goal

abbrev pub invariant-loop-event : goal.invariant-loop-event
invariant-loop-event g l = generated g.row.B l.seed l.lines l.fn.mix ≡ l.events.items ++ l.generator

abbrev pub decreases-loop-event : goal.decreases-loop-event
decreases-loop-event g l = length l.generator
