use Rattle.std.proofs.Common.{◌∙◌, refl, arith}
use Rattle.line_pages.{specs.Youths.young_at, proofs.AgeLemmas.{line_ages, may_age_there}}
use Rattle.line_pages.proofs.pages.Pages.age.Goals as goal
use Rattle.seeded_lines.proofs.SizeLemmas.{row_fits}

pub age-requires : goal.age-requires
age-requires g c =
    let p = c.args.self.now in
    let may = may_age_there p.wear p.limit c.args.line (young_at p.young) p.youth p.young_pages c.requires.few in
    (omega arith, (row_fits c.requires.shape, (omega (arith, c.requires.exists, p.same_lines), (p.wears, (p.suits, (may, (c.requires.shape, c.requires.whole)))))))

pub returns : goal.returns
returns g c =
    let p = c.args.self.now in
    let line = c.args.line in
    let aged = line_ages p.wear p.limit line c.args.tearing c.args.mask.now c.args.want.now (young_at p.young) (young_at c.age.new.self) p.grown
    p.youth p.young_pages c.requires.young c.requires.few c.has_end.ensures c.age.ensures.ages in
    record { cells = aged.cells; pulses = aged.pulses; others = aged.others; lines = refl; wear = refl }

pub invariant_of-self : goal.invariant_of-self
invariant_of-self g c =
    let p = c.args.self.now in
    let line = c.args.line in
    let aged = line_ages p.wear p.limit line c.args.tearing c.args.mask.now c.args.want.now (young_at p.young) (young_at c.age.new.self) p.grown
    p.youth p.young_pages c.requires.young c.requires.few c.has_end.ensures c.age.ensures.ages in
    record {
      wears = p.wears;
      youth = p.youth;
      suits = c.age.ensures.suits;
      young_pages = aged.young;
      same_lines = c.age.ensures.lines ∙ p.same_lines;
    }
