use Rattle.std.proofs.Common.{◌≡◌}
use Rattle.seeded_lines.proofs.seeded.SeededLine.level.Given as goal

abbrev pub invariant-loop-block : goal.invariant-loop-block
invariant-loop-block g l = l.self ≡ l.initial.self
