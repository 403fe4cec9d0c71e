use Rattle.std.proofs.Common.{◌≡◌, ◌+◌, ◌-◌, ◌*◌, ◌∙◌, ap, refl, arith, slice_set}
use Rattle.std.proofs.lemmas.List.{length-set}
use Rattle.seeded_lines.{specs.Counts.count_in, proofs.CountLemmas.{count-bits, count-meta, count_in_written, count_in_kept, kept_row-bits, kept_row-meta}}
use Rattle.seeded_lines.proofs.counts.Counts.set_group.Goals as goal

pub returns-then-group-clause-here : goal.returns-then-group-clause-here
returns-then-group-clause-here g c i low =
    count-bits _ (8 * c.args.group + i) (omega (arith, length-set c.args.self.now.bits c.args.group c.args.row.now)) (omega arith)
    ∙ count_in_written c.args.self.now.bits c.args.group i c.args.row.now (omega arith) low

pub returns-then-group-clause-others : goal.returns-then-group-clause-others
returns-then-group-clause-others g c n apart =
    kept_row-bits c.args.self.now _ c.args.group n (omega arith) (omega (arith, length-set c.args.self.now.bits c.args.group c.args.row.now)) refl
    (λ k. count_in_kept c.args.self.now.bits c.args.group k c.args.row.now) apart

pub returns-else-group-clause-here : goal.returns-else-group-clause-here
returns-else-group-clause-here g c i low =
    let at = c.args.group - g.row.B in
    let number : 8 * c.args.group + i - 8 * g.row.B ≡ 8 * at + i = omega arith in
    count-meta _ (8 * c.args.group + i) (omega arith) (omega arith)
    ∙ ap (count_in (slice_set c.args.self.now.meta at c.args.row.now)) number
    ∙ count_in_written c.args.self.now.meta at i c.args.row.now (omega arith) low

pub returns-else-group-clause-others : goal.returns-else-group-clause-others
returns-else-group-clause-others g c n apart =
    kept_row-meta c.args.self.now _ c.args.group n (omega arith) (omega arith) refl (omega arith)
    (λ k. count_in_kept c.args.self.now.meta (c.args.group - g.row.B) k c.args.row.now) apart
