use Rattle.std.proofs.Common.{◌≡◌, drop}
use Rattle.verdict_text.specs.RightLines.{but_on}
use Rattle.verdict_text.proofs.right_reads.say_but.Given as goal

-- those of the ticks so far are said
abbrev pub invariant-loop-tick : goal.invariant-loop-tick
invariant-loop-tick l = but_on l.text.items l.from l.to (drop l.tick-index l.ticks) ≡ but_on l.fn.text.items l.from l.to l.ticks
