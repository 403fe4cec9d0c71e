use Rattle.std.proofs.Common.{◌≡◌, ◌+◌, length, decimal}
use Rattle.pcm_io.proofs.decimal.digits_in.Given as goal

-- so many digits stand behind those of what is left
abbrev pub invariant-loop-left : goal.invariant-loop-left
invariant-loop-left l = length (decimal l.left) + l.behind ≡ length (decimal l.fn.number)

abbrev pub decreases-loop-left : goal.decreases-loop-left
decreases-loop-left l = l.left
