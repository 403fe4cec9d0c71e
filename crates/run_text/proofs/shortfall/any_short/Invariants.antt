use Rattle.std.proofs.Common.{◌≡◌, take, false}
use Rattle.run_text.specs.Shortfall.{any_short}
use Rattle.run_text.proofs.shortfall.any_short.Given as goal

-- no row so far falls short
abbrev pub invariant-loop-before : goal.invariant-loop-before
invariant-loop-before g l = any_short (take l.before l.results) ≡ false
