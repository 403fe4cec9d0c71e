use Rattle.std.proofs.Common.{ℕ, ◌<◌}
use Rattle.check_reader.specs.Splitting.{IsHeaderAt}
use Rattle.check_reader.proofs.split.find_results.Given as goal

-- no header line begins before
abbrev pub invariant-starts : goal.invariant-starts
invariant-starts l = (before : ℕ) → before < l.at → ¬ IsHeaderAt l.bytes before
