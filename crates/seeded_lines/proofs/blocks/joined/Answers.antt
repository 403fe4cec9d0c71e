use Rattle.std.proofs.Common.{sym, ap, w64, eqb, ◌∙◌}
use Rattle.std.proofs.lemmas.Nat.Bits.{bit_at_set_same, bit_at_set_other}
use Rattle.seeded_lines.proofs.blocks.joined.Goals as goal

pub returns-then-value-clause-is : goal.returns-then-value-clause-is
returns-then-value-clause-is c absent =
    ap (λ x. eqb x 1) (bit_at_set_same w64 c.args.bits c.args.index c.requires) ∙ sym c.if-value.true

pub returns-then-value-clause-kept : goal.returns-then-value-clause-kept
returns-then-value-clause-kept c i apart = ap (λ x. eqb x 1) (bit_at_set_other w64 c.args.bits c.args.index c.requires i apart)
