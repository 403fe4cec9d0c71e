use Rattle.std.proofs.Common.{◌∙◌, refl, sym}
use Rattle.line_pages.{specs.Paging.seen, specs.Youths.young_at, proofs.AgeLemmas.line_wears}
use Rattle.line_pages.proofs.pages.Pages.wear_grown.Goals as goal
use Rattle.seeded_lines.proofs.SizeLemmas.{line_fits, row_fits}

pub wear-requires : goal.wear-requires
wear-requires g c = (line_fits c.requires.shape, (row_fits c.requires.shape, (c.requires.exists, (c.requires.has, (c.requires.shape, c.requires.whole)))))

pub returns : goal.returns
returns g c =
    let p = c.args.self.now in
    let line = c.args.line in
    let worn = line_wears p.wear line c.args.tearing c.args.mask.now c.args.want.now (seen p line) (young_at p.young) p.grown c.wear.new.self c.requires.exists
    (record { line = refl; cells = λ n. refl }) c.wear.ensures in
    record { cells = worn.cells; pulses = worn.pulses; others = worn.others; lines = worn.lines; wear = refl }

pub invariant_of-self : goal.invariant_of-self
invariant_of-self g c =
    let p = c.args.self.now in
    let line = c.args.line in
    let worn = line_wears p.wear line c.args.tearing c.args.mask.now c.args.want.now (seen p line) (young_at p.young) p.grown c.wear.new.self c.requires.exists
    (record { line = refl; cells = λ n. refl }) c.wear.ensures in
    record { wears = p.wears; youth = p.youth; suits = p.suits; young_pages = p.young_pages; same_lines = p.same_lines ∙ sym worn.lines }
