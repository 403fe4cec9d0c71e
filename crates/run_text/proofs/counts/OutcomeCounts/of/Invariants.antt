use Rattle.std.proofs.Common.{◌≡◌, take}
use Rattle.run_text.specs.Counting.{counts_of}
use Rattle.run_text.proofs.counts.OutcomeCounts.of.Given as goal

-- the rows so far are counted
abbrev pub invariant-loop-before : goal.invariant-loop-before
invariant-loop-before g l = l.counts ≡ counts_of (take l.before l.results)
