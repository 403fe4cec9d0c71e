use Rattle.std.proofs.Common.{◌+◌, ◌*◌, sym}
use Rattle.seeded_lines.proofs.PlaneLemmas.{digit-is}
use Rattle.seeded_lines.proofs.digits.Digits.planes.Goals as goal

pub returns : goal.returns
returns g c i low =
    rw (c.block.ensures i low, c.block-2.ensures i low, c.block-3.ensures i low) (sym (digit-is c.args.self.now (64 * c.args.block + i)))
