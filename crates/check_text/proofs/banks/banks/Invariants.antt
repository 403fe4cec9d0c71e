use Rattle.std.proofs.Common.{◌≡◌, map}
use Rattle.std.specs.List.{range_with_len}
use Rattle.right_runs.specs.Banks.{bank_of_line}
use Rattle.check_text.proofs.banks.banks.Given as goal

-- those of the lines so far
abbrev pub invariant-loop-line : goal.invariant-loop-line
invariant-loop-line l = l.banks.items ≡ map (bank_of_line l.shape l.seed) (range_with_len 0 l.line)
