use Rattle.std.proofs.Common.{◌≡◌, ◌<◌, ◌∙◌, List, Option, None, Some, refl, sym, ap, subst, arith, length, length-set}
use Rattle.line_pages.{specs.PageTable.page_at, specs.Tiers.{AgesYoung, tier_of}, specs.declared.later.Later.Later, proofs.TierLemmas.{ages_first, may_first}}
use Rattle.line_pages.proofs.tiers.Tiers.age_first.Goals as goal
use Rattle.seeded_lines.proofs.SizeLemmas.{row_fits}

pub age-requires : goal.age-requires
age-requires g c =
    let old = c.args.self.now in
    let p = c.start.new.self in
    let line = c.args.line in
    let size : length p.first ≡ length old.first = p.same_lines ∙ ap length c.start.ensures.later ∙ sym old.same_lines in
    let within : line < length p.first = omega (arith, c.requires.exists, size) in
    let may = may_first (page_at old.later line) (page_at old.first line) p.first line c.requires.first c.start.ensures.page c.requires.few c.requires.young in
    (row_fits c.requires.shape, (within, (rw c.start.ensures.page refl, (may, (c.requires.shape, c.requires.whole)))))

pub returns-clause-ages : goal.returns-clause-ages
returns-clause-ages g c =
    let old = c.args.self.now in
    let p = c.start.new.self in
    let line = c.args.line in
    let size : length p.first ≡ length old.first = p.same_lines ∙ ap length c.start.ensures.later ∙ sym old.same_lines in
    let none : page_at p.later line ≡ None = ap (λ xs. page_at xs line) c.start.ensures.later ∙ c.requires.first in
    subst (λ (xs : List (Option (Later g.row.B g.row.M))). AgesYoung line c.args.tearing c.args.mask.now c.args.want.now (λ n. tier_of (page_at xs n) (page_at old.first n)) (λ n. tier_of (page_at p.later n) (page_at c.age.new.self n)))
    c.start.ensures.later
    (ages_first line c.args.tearing c.args.mask.now c.args.want.now p.later old.first p.first c.age.new.self (omega (arith, c.requires.exists, size)) none c.start.ensures.page c.start.ensures.others c.age.ensures)

pub returns-clause-lines : goal.returns-clause-lines
returns-clause-lines g c =
    let old = c.args.self.now in
    let p = c.start.new.self in
    ap length c.age.ensures.is ∙ length-set p.first c.args.line (Some c.age.ensures.after) ∙ p.same_lines ∙ ap length c.start.ensures.later ∙ sym old.same_lines

pub invariant_of-self : goal.invariant_of-self
invariant_of-self g c =
    let p = c.start.new.self in
    record { same_lines = ap length c.age.ensures.is ∙ length-set p.first c.args.line (Some c.age.ensures.after) ∙ p.same_lines }
