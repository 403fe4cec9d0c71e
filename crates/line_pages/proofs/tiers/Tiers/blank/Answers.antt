use Rattle.std.proofs.Common.{◌∙◌, sym, ap, length, None, Option}
use Rattle.std.proofs.lemmas.List.{length-replicate}
use Rattle.line_pages.{specs.declared.first.First.First, specs.declared.later.Later.Later, proofs.TierLemmas.tiers_blank}
use Rattle.line_pages.proofs.tiers.Tiers.blank.Goals as goal

pub returns-clause-none : goal.returns-clause-none
returns-clause-none g c = tiers_blank c.in_ok-blank-2.field-0 c.in_ok-blank.field-0 c.args.lines c.in_ok-blank-2.ensures c.in_ok-blank.ensures

pub returns-clause-lines : goal.returns-clause-lines
returns-clause-lines g c = ap length c.in_ok-blank.ensures ∙ length-replicate {A = Option (First g.row.B g.row.M)} c.args.lines None

pub invariant_of-result : goal.invariant_of-result
invariant_of-result g c = record {
  same_lines =
      ap length c.in_ok-blank.ensures ∙ length-replicate {A = Option (First g.row.B g.row.M)} c.args.lines None
      ∙ sym (ap length c.in_ok-blank-2.ensures ∙ length-replicate {A = Option (Later g.row.B g.row.M)} c.args.lines None);
}
