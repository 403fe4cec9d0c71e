use Rattle.std.proofs.Common.{◌<◌, ◌∙◌, sym, ap, arith, length, length-set, Some}
use Rattle.line_pages.{specs.PageTable.page_at, specs.Tiered.tier_at, proofs.TierLemmas.{ages_later, may_later}}
use Rattle.line_pages.proofs.tiers.Tiers.age_later.Goals as goal
use Rattle.seeded_lines.proofs.SizeLemmas.{row_fits}

pub age-requires : goal.age-requires
age-requires g c =
    let old = c.args.self.now in
    let p = c.widen.new.self in
    let line = c.args.line in
    let within : line < length p.later = omega (arith, c.requires.exists, c.widen.ensures.lines, p.same_lines) in
    let may = may_later (tier_at old line) (page_at p.later line) (page_at p.first line) c.widen.ensures.page c.requires.young in
    (row_fits c.requires.shape, (within, (c.widen.ensures.later, (may, (c.requires.shape, c.requires.whole)))))

pub returns-clause-ages : goal.returns-clause-ages
returns-clause-ages g c =
    let old = c.args.self.now in
    let p = c.widen.new.self in
    let line = c.args.line in
    let within : line < length p.later = omega (arith, c.requires.exists, c.widen.ensures.lines, p.same_lines) in
    ages_later line c.args.tearing c.args.mask.now c.args.want.now (tier_at old) p.first p.later c.age.new.self within c.widen.ensures.page c.widen.ensures.others c.age.ensures

pub invariant_of-self : goal.invariant_of-self
invariant_of-self g c =
    let p = c.widen.new.self in
    record { same_lines = p.same_lines ∙ sym (ap length c.age.ensures.is ∙ length-set p.later c.args.line (Some c.age.ensures.after)) }
