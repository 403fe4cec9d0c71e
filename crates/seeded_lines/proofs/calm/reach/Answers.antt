use Rattle.std.proofs.Common.{ap, eqb}
use Rattle.std.proofs.lemmas.Nat.Bits.{bit_at_ones}
use Rattle.seeded_lines.proofs.BlockLemmas.{even_only}
use Rattle.seeded_lines.proofs.calm.reach.Goals as goal

pub returns-then-tearing : goal.returns-then-tearing
returns-then-tearing c i low = rw c.if-tearing.true (even_only i low)

pub returns-else-tearing : goal.returns-else-tearing
returns-else-tearing c i low = rw c.if-tearing.false (ap (λ x. eqb x 1) (bit_at_ones 64 i low))
