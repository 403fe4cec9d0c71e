use Rattle.std.proofs.Common.{◌≡◌, ◌∙◌, sym, ap, Some, None}
use Rattle.std.specs.{Option.option_map, Prelude.option_copied}
use Rattle.line_pages.{specs.PageTable.page_at, proofs.TierLemmas.{tier-first, tier-later, tier-none}}
use Rattle.line_pages.proofs.tiers.Tiers.pulses.Goals as goal
use Rattle.seeded_lines.specs.declared.young.Young.{Young}

pub returns-in-Some : goal.returns-in-Some
returns-in-Some g c =
    let y = c.args.self.now in
    let line = c.args.line in
    let at : page_at y.later line ≡ Some c.in-Some.later.now = sym c.get.ensures ∙ ap option_copied c.in-Some.is in
    sym (ap (option_map (λ (young : Young g.row.B g.row.M). young.pulses)) (tier-later (page_at y.later line) (page_at y.first line) c.in-Some.later.now at))

pub returns-in-Some-get : goal.returns-in-Some-get
returns-in-Some-get g c =
    let y = c.args.self.now in
    let line = c.args.line in
    let none : page_at y.later line ≡ None = sym c.get.ensures ∙ ap option_copied c.in-None.is in
    let at : page_at y.first line ≡ Some c.in-Some-get.first.now = sym c.get-in-None.ensures ∙ ap option_copied c.in-Some-get.is in
    sym (ap (option_map (λ (young : Young g.row.B g.row.M). young.pulses)) (tier-first (page_at y.later line) (page_at y.first line) c.in-Some-get.first.now none at))

pub returns-in-None-get : goal.returns-in-None-get
returns-in-None-get g c =
    let y = c.args.self.now in
    let line = c.args.line in
    let none : page_at y.later line ≡ None = sym c.get.ensures ∙ ap option_copied c.in-None.is in
    let no_first : page_at y.first line ≡ None = sym c.get-in-None.ensures ∙ ap option_copied c.in-None-get.is in
    sym (ap (option_map (λ (young : Young g.row.B g.row.M). young.pulses)) (tier-none (page_at y.later line) (page_at y.first line) none no_first))
