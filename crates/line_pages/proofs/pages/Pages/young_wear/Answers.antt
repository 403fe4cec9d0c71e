use Rattle.std.proofs.Common.{◌≡◌, ◌∙◌, sym, Some, None}
use Rattle.line_pages.{specs.PageTable.page_at, specs.Youths.young_at, proofs.PagingLemmas.{seen-drawn, seen-young}}
use Rattle.line_pages.proofs.pages.Pages.young_wear.Goals as goal
use Rattle.seeded_lines.proofs.{WearLemmas.{drawn_changes, drawn_stuck}, YoungLemmas.{grown_changes, grown_stuck}}

pub returns-in-Some-clause-stuck : goal.returns-in-Some-clause-stuck
returns-in-Some-clause-stuck g c =
    let p = c.args.self.now in
    let line = c.args.line in
    let young = c.in-Some.young in
    let at : young_at p.young line ≡ Some young = sym c.get.ensures ∙ c.in-Some.is in
    sym (grown_stuck p.wear line young _ (seen-young p.wear line (young_at p.young line) (page_at p.grown line) young c.requires.young at))

pub returns-in-Some-clause-changes : goal.returns-in-Some-clause-changes
returns-in-Some-clause-changes g c =
    let p = c.args.self.now in
    let line = c.args.line in
    let young = c.in-Some.young in
    let at : young_at p.young line ≡ Some young = sym c.get.ensures ∙ c.in-Some.is in
    c.most_changes-changes.ensures
    ∙ grown_changes p.wear p.limit line young _ p.youth (p.young_pages.each line young at) (seen-young p.wear line (young_at p.young line) (page_at p.grown line) young c.requires.young at)

pub returns-in-None-clause-stuck : goal.returns-in-None-clause-stuck
returns-in-None-clause-stuck g c =
    let p = c.args.self.now in
    let line = c.args.line in
    let none : young_at p.young line ≡ None = sym c.get.ensures ∙ c.in-None.is in
    sym (drawn_stuck p.wear line _ (seen-drawn p.wear line (young_at p.young line) (page_at p.grown line) c.requires.young none))

pub returns-in-None-clause-changes : goal.returns-in-None-clause-changes
returns-in-None-clause-changes g c =
    let p = c.args.self.now in
    let line = c.args.line in
    let none : young_at p.young line ≡ None = sym c.get.ensures ∙ c.in-None.is in
    sym (drawn_changes p.wear line _ (seen-drawn p.wear line (young_at p.young line) (page_at p.grown line) c.requires.young none))
