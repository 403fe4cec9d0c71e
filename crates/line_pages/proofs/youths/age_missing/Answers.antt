use Rattle.std.proofs.Common.{◌≡◌, ◌<◌, ◌∙◌, ap, arith, length, length-set, Some}
use Rattle.line_pages.{specs.PageTable.page_at, proofs.BegunLemmas.{ages_missing, may_start}}
use Rattle.line_pages.proofs.youths.age_missing.Goals as goal
use Rattle.seeded_lines.{specs.declared.young.Young.Young, proofs.SizeLemmas.row_fits}

pub age-requires : goal.age-requires
age-requires g c =
    let line = c.args.line in
    let within : line < length c.begin.new.pages = omega (arith, c.requires.exists, c.begin.ensures.lines) in
    let may = λ (page : Young g.row.B g.row.M) (is : page_at c.begin.new.pages line ≡ Some page).
    may_start c.args.wear line (page_at c.args.pages.now line) page (c.begin.ensures.page page is) c.requires.young in
    (row_fits c.requires.shape, (within, (c.begin.ensures.has, (may, (c.requires.shape, c.requires.whole)))))

pub returns-clause-ages : goal.returns-clause-ages
returns-clause-ages g c =
    let p = c.begin.new.pages in
    ages_missing c.args.wear c.args.line c.args.tearing c.args.mask.now c.args.want.now c.args.pages.now p c.age.new.self (omega (arith, c.requires.exists, c.begin.ensures.lines))
    c.begin.ensures.page c.begin.ensures.others c.age.ensures

pub returns-clause-lines : goal.returns-clause-lines
returns-clause-lines g c = ap length c.age.ensures.is ∙ length-set c.begin.new.pages c.args.line (Some c.age.ensures.after) ∙ c.begin.ensures.lines
