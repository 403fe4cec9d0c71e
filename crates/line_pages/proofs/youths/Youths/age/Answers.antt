use Rattle.std.proofs.Common.{◌<◌, ◌∙◌, refl, sym, ap, subst, arith}
use Rattle.line_pages.specs.{Begun.AgesLine, Tiered.tier_at, Youths.{Suits, young_at, young_lines}, declared.youths.Youths.Youths, declared.youths.Youths.TheVariants.Sure}
use Rattle.line_pages.proofs.BegunLemmas.{ages_sure, may_tier}
use Rattle.line_pages.proofs.youths.Youths.age.Goals as goal
use Rattle.seeded_lines.proofs.SizeLemmas.{row_fits}

pub age-requires : goal.age-requires
age-requires g c =
    let tiers = c.in-Sure.tiers in
    let line = c.args.line in
    let within = subst (λ (y : Youths g.row.B g.row.M). line < young_lines y) c.in-Sure.is c.requires.exists in
    let may = may_tier (tier_at tiers line) (λ young at. c.requires.young young (ap (λ (y : Youths g.row.B g.row.M). young_at y line) c.in-Sure.is ∙ at)) in
    (omega arith, (row_fits c.requires.shape, (within, (may, (c.requires.shape, c.requires.whole)))))

pub returns-in-Sure-clause-ages : goal.returns-in-Sure-clause-ages
returns-in-Sure-clause-ages g c =
    let wear = c.args.wear in
    let line = c.args.line in
    let suits : Suits {B = g.row.B} {M = g.row.M} wear (Sure c.in-Sure.tiers) = subst (λ (y : Youths g.row.B g.row.M). Suits wear y) c.in-Sure.is c.requires.suits in
    let aged = ages_sure wear line c.args.tearing c.args.mask.now c.args.want.now (tier_at c.in-Sure.tiers) (tier_at c.age.new.self) (suits refl) c.age.ensures.ages in
    subst (λ (y : Youths g.row.B g.row.M). AgesLine wear line c.args.tearing c.args.mask.now c.args.want.now (young_at y) (young_at (Sure c.age.new.self)))
    (sym c.in-Sure.is) aged
