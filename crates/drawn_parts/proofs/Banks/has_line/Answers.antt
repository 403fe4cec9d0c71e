use Rattle.std.proofs.Common.{◌<◌, ℕ, subst, sym}
use Rattle.drawn_parts.proofs.Banks.has_line.Goals as goal

pub forward-requires : goal.forward-requires
forward-requires c = subst (λ (most : ℕ). c.args.line < most) (sym c.requires.network) c.requires.line

pub locate-bank-requires : goal.locate-bank-requires
locate-bank-requires c = subst (λ (most : ℕ). c.forward.result < most) c.requires.network c.forward.ensures.within
