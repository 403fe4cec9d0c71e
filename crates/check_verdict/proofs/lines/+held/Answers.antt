use Rattle.std.proofs.Common.{arith}
use Rattle.check_verdict.proofs.lines.+held.Goals as goal

pub slice_bounds-held-count : goal.slice_bounds-held-count
slice_bounds-held-count g t c = grind arith

pub join_given-requires : goal.join_given-requires
join_given-requires g t c = grind arith
