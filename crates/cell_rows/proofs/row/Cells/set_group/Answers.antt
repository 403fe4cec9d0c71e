use Rattle.std.proofs.Common.{◌≡◌, ◌+◌, ◌-◌, ◌*◌, ◌∙◌, ap, refl, arith, slice_set}
use Rattle.std.proofs.lemmas.List.{length-set}
use Rattle.cell_rows.{specs.Rows.bit_of, proofs.ByteLemmas.{bit_of_written, bit_of_kept}, proofs.RowLemmas.{cell-bits, cell-meta, kept_group-bits, kept_group-meta}}
use Rattle.cell_rows.proofs.row.Cells.set_group.Goals as goal

pub returns-then-group-clause-here : goal.returns-then-group-clause-here
returns-then-group-clause-here g c i low =
    cell-bits _ (8 * c.args.group + i) (omega (arith, length-set c.args.self.now.bits c.args.group c.args.byte)) (omega arith)
    ∙ bit_of_written c.args.self.now.bits c.args.group c.args.byte i (omega arith) low

pub returns-then-group-clause-others : goal.returns-then-group-clause-others
returns-then-group-clause-others g c n apart =
    kept_group-bits c.args.self.now _ c.args.group n (omega arith) (omega (arith, length-set c.args.self.now.bits c.args.group c.args.byte)) refl
    (bit_of_kept c.args.self.now.bits c.args.group c.args.byte) apart

pub returns-else-group-clause-here : goal.returns-else-group-clause-here
returns-else-group-clause-here g c i low =
    let at = c.args.group - g.row.B in
    let number : 8 * c.args.group + i - 8 * g.row.B ≡ 8 * at + i = omega arith in
    cell-meta _ (8 * c.args.group + i) (omega arith) (omega arith)
    ∙ ap (bit_of (slice_set c.args.self.now.meta at c.args.byte)) number
    ∙ bit_of_written c.args.self.now.meta at c.args.byte i (omega arith) low

pub returns-else-group-clause-others : goal.returns-else-group-clause-others
returns-else-group-clause-others g c n apart =
    kept_group-meta c.args.self.now _ c.args.group n (omega arith) (omega arith) refl (omega arith)
    (bit_of_kept c.args.self.now.meta (c.args.group - g.row.B) c.args.byte) apart
