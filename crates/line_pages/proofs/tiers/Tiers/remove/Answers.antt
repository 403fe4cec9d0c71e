use Rattle.std.proofs.Common.{◌<◌, ◌∙◌, sym, ap, arith, length, length-set, get_or-set_same, get_or-set_other, None}
use Rattle.line_pages.{specs.PageTable.page_at, specs.Tiers.tier_of, proofs.TierLemmas.tier-none}
use Rattle.line_pages.proofs.tiers.Tiers.remove.Goals as goal

pub returns-clause-others : goal.returns-clause-others
returns-clause-others g c n apart =
    let old = c.args.self.now in
    ap (λ o. tier_of o (page_at c.remove.new.self n)) (ap (λ xs. page_at xs n) c.remove-2.ensures ∙ get_or-set_other old.later c.args.line n None None apart)
    ∙ ap (tier_of (page_at old.later n)) (ap (λ xs. page_at xs n) c.remove.ensures ∙ get_or-set_other old.first c.args.line n None None apart)

pub returns-clause-gone : goal.returns-clause-gone
returns-clause-gone g c =
    let old = c.args.self.now in
    let line = c.args.line in
    let within : line < length old.later = omega (arith, c.requires, old.same_lines) in
    tier-none (page_at c.remove-2.new.self line) (page_at c.remove.new.self line)
    (ap (λ xs. page_at xs line) c.remove-2.ensures ∙ get_or-set_same old.later line None None within)
    (ap (λ xs. page_at xs line) c.remove.ensures ∙ get_or-set_same old.first line None None c.requires)

pub returns-clause-lines : goal.returns-clause-lines
returns-clause-lines g c = ap length c.remove.ensures ∙ length-set c.args.self.now.first c.args.line None

pub invariant_of-self : goal.invariant_of-self
invariant_of-self g c =
    let old = c.args.self.now in
    record { same_lines = ap length c.remove.ensures ∙ length-set old.first c.args.line None ∙ old.same_lines ∙ sym (ap length c.remove-2.ensures ∙ length-set old.later c.args.line None) }
