use Rattle.std.proofs.Common.{◌≡◌, ◌∙◌, sym, ap, Some, None}
use Rattle.std.specs.Prelude.{option_copied}
use Rattle.line_pages.{specs.PageTable.page_at, specs.Tiers.young_or_blank, proofs.TierLemmas.{tier-first, tier-none}}
use Rattle.line_pages.proofs.tiers.Tiers.widened.Goals as goal

pub returns-in-Some : goal.returns-in-Some
returns-in-Some g c =
    let y = c.args.self.now in
    let line = c.args.line in
    let at : page_at y.first line ≡ Some c.in-Some.first.now = sym c.get.ensures ∙ ap option_copied c.in-Some.is in
    c.later.ensures ∙ sym (ap young_or_blank (tier-first (page_at y.later line) (page_at y.first line) c.in-Some.first.now c.requires.first at))

pub returns-in-None : goal.returns-in-None
returns-in-None g c =
    let y = c.args.self.now in
    let line = c.args.line in
    let none : page_at y.first line ≡ None = sym c.get.ensures ∙ ap option_copied c.in-None.is in
    c.blank.ensures ∙ sym (ap young_or_blank (tier-none (page_at y.later line) (page_at y.first line) c.requires.first none))
