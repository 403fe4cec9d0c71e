use Rattle.std.proofs.Common.{◌∙◌, sym, ap, length, None, Option}
use Rattle.std.proofs.lemmas.List.{length-replicate}
use Rattle.seeded_lines.specs.Seeded.{LifeLine}
use Rattle.line_pages.{specs.Youths.young_at, proofs.PagingLemmas.none_young}
use Rattle.line_pages.proofs.pages.Pages.blank.Goals as goal

pub invariant_of-result : goal.invariant_of-result
invariant_of-result g c = record {
  wears = c.requires;
  youth = c.young_limit.ensures;
  suits = c.in_ok-blank.ensures.suits;
  young_pages = none_young c.args.wear c.young_limit.result (young_at c.in_ok-blank.field-0) c.in_ok-blank.ensures.none;
  same_lines = c.in_ok-blank.ensures.lines ∙ sym (ap length c.in_ok-blank-2.ensures ∙ length-replicate {A = Option (LifeLine g.row.B g.row.M)} c.args.lines None);
}
