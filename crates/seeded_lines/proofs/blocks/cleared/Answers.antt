use Rattle.std.proofs.Common.{ap, w64, eqb}
use Rattle.std.proofs.lemmas.Nat.Bits.{bit_at_clear_same, bit_at_clear_other}
use Rattle.seeded_lines.proofs.BlockLemmas.{clear_less}
use Rattle.seeded_lines.proofs.blocks.cleared.Goals as goal

pub returns-clause-is : goal.returns-clause-is
returns-clause-is c = ap (λ x. eqb x 1) (bit_at_clear_same w64 c.args.bits c.args.index c.requires.fits)

pub returns-clause-kept : goal.returns-clause-kept
returns-clause-kept c i low apart = ap (λ x. eqb x 1) (bit_at_clear_other w64 c.args.bits c.args.index c.requires.fits i low apart)

pub returns-clause-less : goal.returns-clause-less
returns-clause-less c = clear_less c.args.bits c.args.index c.requires.fits c.requires.has
