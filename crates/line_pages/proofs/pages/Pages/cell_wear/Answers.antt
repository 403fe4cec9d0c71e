use Rattle.std.proofs.Common.{◌≡◌, ◌+◌, ◌*◌, ◌∙◌, sym, ap, arith, Some}
use Rattle.std.specs.Prelude.{option_copied}
use Rattle.cell_rows.specs.{Rows.{cell, members}, Told.most}
use Rattle.line_pages.{specs.PageTable.page_at, specs.Youths.young_at, proofs.PagingLemmas.seen-grown}
use Rattle.line_pages.proofs.pages.Pages.cell_wear.Goals as goal
use Rattle.seeded_lines.{specs.Drawn.changes_of, specs.Seeded.LifeLine, proofs.SizeLemmas.line_fits, proofs.WearLemmas.changes_since}

pub returns-in-Some-clause-stuck : goal.returns-in-Some-clause-stuck
returns-in-Some-clause-stuck g c =
    let p = c.args.self.now in
    let line = c.args.line in
    let at : page_at p.grown line ≡ Some c.in-Some.grown.now = sym c.get.ensures ∙ ap option_copied c.in-Some.is in
    c.cell_wear.ensures.stuck
    ∙ sym (ap (λ (l : LifeLine g.row.B g.row.M). members (cell l.line.stuck) (8 * (g.row.B + g.row.M)))
    (seen-grown p.wear line (young_at p.young line) (page_at p.grown line) c.in-Some.grown.now at))

pub returns-in-Some-clause-changes : goal.returns-in-Some-clause-changes
returns-in-Some-clause-changes g c =
    let p = c.args.self.now in
    let line = c.args.line in
    let at : page_at p.grown line ≡ Some c.in-Some.grown.now = sym c.get.ensures ∙ ap option_copied c.in-Some.is in
    c.cell_wear.ensures.changes ∙ changes_since p.wear line _ c.in-Some.grown.now c.drawn-drawn.ensures
    ∙ sym (ap (λ (l : LifeLine g.row.B g.row.M). most (changes_of p.wear line l) (8 * (g.row.B + g.row.M)))
    (seen-grown p.wear line (young_at p.young line) (page_at p.grown line) c.in-Some.grown.now at))

pub young_wear-requires : goal.young_wear-requires
young_wear-requires g c = (omega arith, (c.requires.exists, (sym c.get.ensures ∙ ap option_copied c.in-None.is, c.requires.shape)))

pub drawn-drawn-requires : goal.drawn-drawn-requires
drawn-drawn-requires g c = (line_fits c.requires.shape, (c.args.self.now.wears, c.requires.shape))

pub cell_wear-requires : goal.cell_wear-requires
cell_wear-requires g c = (line_fits c.requires.shape, c.requires.shape)
