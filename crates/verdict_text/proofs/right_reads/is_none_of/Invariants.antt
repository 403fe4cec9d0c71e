use Rattle.std.proofs.Common.{◌≡◌, drop}
use Rattle.verdict_telling.specs.Offers.{is_none_of}
use Rattle.verdict_text.proofs.right_reads.is_none_of.Given as goal

-- the tick is none of those so far
abbrev pub invariant-loop-other : goal.invariant-loop-other
invariant-loop-other l = is_none_of l.tick (drop l.other-index l.ticks) ≡ is_none_of l.tick l.ticks
