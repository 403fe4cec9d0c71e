use Rattle.std.proofs.Common.{sym, ap, w8, eqb, ◌∙◌}
use Rattle.std.proofs.lemmas.Nat.Bits.{bit_at_set_same, bit_at_set_other, bit_at_clear_same, bit_at_clear_other}
use Rattle.cell_rows.proofs.bytes.with_bit.Goals as goal

pub returns-then-value-clause-is : goal.returns-then-value-clause-is
returns-then-value-clause-is c =
    ap (λ x. eqb x 1) (bit_at_set_same w8 c.args.byte c.args.index c.requires) ∙ sym c.if-value.true

pub returns-then-value-clause-kept : goal.returns-then-value-clause-kept
returns-then-value-clause-kept c i low apart = bit_at_set_other w8 c.args.byte c.args.index c.requires i apart

pub returns-else-value-clause-is : goal.returns-else-value-clause-is
returns-else-value-clause-is c =
    ap (λ x. eqb x 1) (bit_at_clear_same w8 c.args.byte c.args.index c.requires) ∙ sym c.if-value.false

pub returns-else-value-clause-kept : goal.returns-else-value-clause-kept
returns-else-value-clause-kept c i low apart = bit_at_clear_other w8 c.args.byte c.args.index c.requires i low apart
