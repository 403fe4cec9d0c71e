use Rattle.std.proofs.Common.{◌≡◌, take}
use Rattle.masked_bytes.specs.Masked.{joined}
use Rattle.masked_bytes.proofs.layers.join_given.Given as goal

abbrev pub invariant-loop-i : goal.invariant-loop-i
invariant-loop-i g l = l.other ≡ joined (take l.i l.given) l.initial.other
