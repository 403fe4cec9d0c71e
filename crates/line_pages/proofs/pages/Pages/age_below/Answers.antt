use Rattle.std.proofs.Common.{◌≡◌, ◌∙◌, Bool, true, false, refl, arith}
use Rattle.line_pages.{specs.Youths.young_at, proofs.AgeLemmas.line_ages, proofs.BelowLemmas.{below_ages, young_same}}
use Rattle.line_pages.proofs.pages.Pages.age_below.Goals as goal
use Rattle.seeded_lines.proofs.SizeLemmas.{row_fits}

either : {P : Type 0} (b : Bool) → (b ≡ true → P) → (b ≡ false → P) → P
either true f g = f refl
either false f g = g refl

pub age_below-requires : goal.age_below-requires
age_below-requires g c =
    let p = c.args.self.now in
    (omega arith, (row_fits c.requires.shape, (omega (arith, c.requires.exists, p.same_lines), (p.youth.few, (λ young is. (p.young_pages.each c.args.line young is).changes, (c.requires.shape, c.requires.whole))))))

pub returns-clause-wears : goal.returns-clause-wears
returns-clause-wears g c is =
    let p = c.args.self.now in
    let line = c.args.line in
    let below = below_ages p.wear p.limit line c.args.tearing c.args.mask.now c.args.want.now (young_at p.young) (young_at c.age_below.new.self) (c.age_below.ensures.ages is) in
    let aged = line_ages p.wear p.limit line c.args.tearing c.args.mask.now c.args.want.now (young_at p.young) (young_at c.age_below.new.self) p.grown
    p.youth p.young_pages c.requires.young below.1 c.has_end.ensures below.0 in
    record { cells = aged.cells; pulses = aged.pulses; others = aged.others; lines = refl; wear = refl }

pub invariant_of-self : goal.invariant_of-self
invariant_of-self g c =
    let p = c.args.self.now in
    let line = c.args.line in
    record {
      wears = p.wears;
      youth = p.youth;
      suits = c.age_below.ensures.suits p.wear p.suits;
      young_pages =
          either c.age_below.result
          (λ is.
          let below = below_ages p.wear p.limit line c.args.tearing c.args.mask.now c.args.want.now (young_at p.young) (young_at c.age_below.new.self) (c.age_below.ensures.ages is) in
          (line_ages p.wear p.limit line c.args.tearing c.args.mask.now c.args.want.now (young_at p.young) (young_at c.age_below.new.self) p.grown
          p.youth p.young_pages c.requires.young below.1 c.has_end.ensures below.0).young)
          (λ is. young_same p.wear p.limit (young_at p.young) (young_at c.age_below.new.self) p.young_pages (c.age_below.ensures.same is));
      same_lines = c.age_below.ensures.lines ∙ p.same_lines;
    }
