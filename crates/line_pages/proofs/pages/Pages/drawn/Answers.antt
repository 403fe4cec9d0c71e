use Rattle.std.proofs.Common.{◌≡◌, ◌∙◌, refl, sym, subst, Some, None}
use Rattle.seeded_lines.specs.{Drawn.HaveSameLife, Seeded.LifeLine}
use Rattle.line_pages.{specs.Youths.young_at, proofs.PagingLemmas.{seen-drawn, seen-young}}
use Rattle.line_pages.proofs.pages.Pages.drawn.Goals as goal

pub returns-in-Some : goal.returns-in-Some
returns-in-Some g c =
    let p = c.args.self.now in
    let line = c.args.line in
    let young = c.in-Some.young in
    let at : young_at p.young line ≡ Some young = sym c.get.ensures ∙ c.in-Some.is in
    subst (λ (l : LifeLine g.row.B g.row.M). HaveSameLife l c.aged.result) (sym (seen-young p.wear line (young_at p.young line) None young refl at)) c.aged.ensures

pub returns-in-None : goal.returns-in-None
returns-in-None g c =
    let p = c.args.self.now in
    let line = c.args.line in
    let none : young_at p.young line ≡ None = sym c.get.ensures ∙ c.in-None.is in
    subst (λ (l : LifeLine g.row.B g.row.M). HaveSameLife l c.drawn.result) (sym (seen-drawn p.wear line (young_at p.young line) None refl none)) c.drawn.ensures
