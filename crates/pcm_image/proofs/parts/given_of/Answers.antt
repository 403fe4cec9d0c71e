use Rattle.std.proofs.Common.{rules}
use Rattle.pcm_image.proofs.Bits.{given-is}
use Rattle.pcm_image.proofs.parts.given_of.Goals as goal

pub returns : goal.returns
returns g c = given-is c.args.bits.now g.row.B c.loop-i.given c.loop-i.invariant.0 (λ k lt. c.loop-i.invariant.1 k (search rules))
