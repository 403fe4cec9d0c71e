use Rattle.std.proofs.Common.{◌∙◌, ap, length, length-set, Some}
use Rattle.line_pages.proofs.tiers.Tiers.start.Goals as goal

pub invariant_of-self : goal.invariant_of-self
invariant_of-self g c =
    let old = c.args.self.now in
    record { same_lines = ap length c.insert.ensures ∙ length-set old.first c.args.line (Some c.blank.result) ∙ old.same_lines }
