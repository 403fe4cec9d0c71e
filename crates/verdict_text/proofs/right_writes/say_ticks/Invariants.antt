use Rattle.std.proofs.Common.{◌≡◌, drop}
use Rattle.verdict_text.specs.RightLines.{ticks_on}
use Rattle.verdict_text.proofs.right_writes.say_ticks.Given as goal

-- the ticks so far are said
abbrev pub invariant-loop-tick : goal.invariant-loop-tick
invariant-loop-tick l = ticks_on l.text.items (drop l.tick-index l.ticks) ≡ ticks_on l.fn.text.items l.ticks
