use Rattle.std.proofs.Common.{◌≡◌, ◌∙◌, sym, ap, Some, None}
use Rattle.std.specs.Prelude.{option_copied}
use Rattle.line_pages.{specs.PageTable.page_at, specs.Youths.young_at, proofs.PagingLemmas.{seen-drawn, seen-grown, seen-young, told-none, told-some}}
use Rattle.line_pages.proofs.pages.Pages.pulses.Goals as goal
use Rattle.seeded_lines.{specs.Seeded.LifeLine, specs.declared.young.Young.Young, proofs.DrawnLemmas.drawn_is, proofs.YoungLemmas.grown_pulses}

pub returns-in-Some : goal.returns-in-Some
returns-in-Some g c =
    let p = c.args.self.now in
    let line = c.args.line in
    let at : page_at p.grown line ≡ Some c.in-Some.grown.now = sym c.get.ensures ∙ ap option_copied c.in-Some.is in
    c.pulses.ensures ∙ sym (ap (λ (l : LifeLine g.row.B g.row.M). l.line.pulses) (seen-grown p.wear line (young_at p.young line) (page_at p.grown line) c.in-Some.grown.now at))

pub returns-in-Some-pulses : goal.returns-in-Some-pulses
returns-in-Some-pulses g c =
    let p = c.args.self.now in
    let line = c.args.line in
    let none : page_at p.grown line ≡ None = sym c.get.ensures ∙ ap option_copied c.in-None.is in
    let told = told-some (λ (young : Young g.row.B g.row.M). young.pulses) (young_at p.young line) c.in-Some-pulses.pulses (sym c.in-Some-pulses.is ∙ c.pulses-in-None.ensures) in
    told.2
    ∙ sym (ap (λ (l : LifeLine g.row.B g.row.M). l.line.pulses) (seen-young p.wear line (young_at p.young line) (page_at p.grown line) told.0 none told.1)
    ∙ grown_pulses p.wear line told.0)

pub returns-in-None-pulses : goal.returns-in-None-pulses
returns-in-None-pulses g c =
    let p = c.args.self.now in
    let line = c.args.line in
    let none : page_at p.grown line ≡ None = sym c.get.ensures ∙ ap option_copied c.in-None.is in
    let no_young = told-none (λ (young : Young g.row.B g.row.M). young.pulses) (young_at p.young line) (sym c.in-None-pulses.is ∙ c.pulses-in-None.ensures) in
    sym (ap (λ (l : LifeLine g.row.B g.row.M). l.line.pulses) (seen-drawn p.wear line (young_at p.young line) (page_at p.grown line) none no_young)
    ∙ ap (λ l. l.pulses) (drawn_is g.row.B g.row.M p.wear line).line)
