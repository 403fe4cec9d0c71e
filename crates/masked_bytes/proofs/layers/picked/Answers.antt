use Rattle.std.proofs.Common.{arith, refl}
use Rattle.masked_bytes.proofs.Layering.{picked}
use Rattle.masked_bytes.proofs.layers.picked.Goals as goal

pub returns : goal.returns
returns c =
    picked c.args.given c.args.above c.args.below c.from-mask.result
    (λ e. rw (c.from-mask.ensures, e) refl) (λ e. rw (c.from-mask.ensures, e) refl) (omega arith) (omega arith)
