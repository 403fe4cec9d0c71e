use Rattle.std.proofs.Common.{◌≡◌, ◌<◌, ◌∙◌, rules, refl, sym, ap, arith, true, length, length-set, get_or-set_same, get_or-set_other, Some, None}
use Rattle.std.specs.Prelude.{is_some}
use Rattle.line_pages.{specs.PageTable.page_at, specs.Tiers.tier_of, proofs.TierLemmas.{is-there, tier-has, tier-later}}
use Rattle.line_pages.proofs.tiers.Tiers.widen.Goals as goal

pub returns-then-not-has-clause-page : goal.returns-then-not-has-clause-page
returns-then-not-has-clause-page g c =
    let old = c.args.self.now in
    let line = c.args.line in
    let within : line < length old.later = omega (arith, c.requires.exists, old.same_lines) in
    tier-later (page_at c.insert.new.self line) (page_at c.remove.new.self line) c.widened-page.result
    (ap (λ xs. page_at xs line) c.insert.ensures ∙ get_or-set_same old.later line (Some c.widened-page.result) None within)
    ∙ ap Some c.widened-page.ensures

pub returns-then-not-has-clause-later : goal.returns-then-not-has-clause-later
returns-then-not-has-clause-later g c =
    let old = c.args.self.now in
    let within : c.args.line < length old.later = omega (arith, c.requires.exists, old.same_lines) in
    rw (c.insert.ensures, get_or-set_same old.later c.args.line (Some c.widened-page.result) None within) refl

pub returns-then-not-has-clause-others : goal.returns-then-not-has-clause-others
returns-then-not-has-clause-others g c n apart =
    let old = c.args.self.now in
    ap (λ o. tier_of o (page_at c.remove.new.self n)) (ap (λ xs. page_at xs n) c.insert.ensures ∙ get_or-set_other old.later c.args.line n (Some c.widened-page.result) None apart)
    ∙ ap (tier_of (page_at old.later n)) (ap (λ xs. page_at xs n) c.remove.ensures ∙ get_or-set_other old.first c.args.line n None None apart)

pub returns-then-not-has-clause-lines : goal.returns-then-not-has-clause-lines
returns-then-not-has-clause-lines g c = ap length c.remove.ensures ∙ length-set c.args.self.now.first c.args.line None

pub returns-else-not-has-clause-page : goal.returns-else-not-has-clause-page
returns-else-not-has-clause-page g c =
    let old = c.args.self.now in
    let has : is_some (page_at old.later c.args.line) ≡ true = search rules in
    tier-has (page_at old.later c.args.line) (page_at old.first c.args.line) has

pub returns-else-not-has-clause-later : goal.returns-else-not-has-clause-later
returns-else-not-has-clause-later g c =
    let has : is_some (page_at c.args.self.now.later c.args.line) ≡ true = search rules in
    is-there (page_at c.args.self.now.later c.args.line) has

pub invariant_of-self : goal.invariant_of-self
invariant_of-self g c =
    let old = c.args.self.now in
    record { same_lines = ap length c.remove.ensures ∙ length-set old.first c.args.line None ∙ old.same_lines ∙ sym (ap length c.insert.ensures ∙ length-set old.later c.args.line (Some c.widened-page.result)) }
