use Rattle.std.proofs.Common.{◌≡◌, ◌<◌, rules, arith, false, length, None}
use Rattle.std.specs.Prelude.{is_some}
use Rattle.line_pages.{specs.PageTable.page_at, specs.Tiers.{by_first, by_later}, proofs.AgeLemmas.none-of, proofs.BelowLemmas.{below_first, below_later, below_more}}
use Rattle.line_pages.proofs.TierLemmas.{tier-first, tier-later}
use Rattle.line_pages.proofs.tiers.Tiers.age_below.Goals as goal
use Rattle.seeded_lines.proofs.SizeLemmas.{row_fits}

pub age_below-requires : goal.age_below-requires
age_below-requires g c =
    let old = c.args.self.now in
    let line = c.args.line in
    let within : line < length old.later = omega (arith, c.requires.exists, old.same_lines) in (
      row_fits c.requires.shape,
      (
        within,
        (
          c.requires.room,
          (
            λ page is. c.requires.young (by_later page) (tier-later (page_at old.later line) (page_at old.first line) page is),
            (c.requires.shape, c.requires.whole),
          ),
        ),
      ),
    )

pub returns-then-has-clause-ages : goal.returns-then-has-clause-ages
returns-then-has-clause-ages g c is =
    let old = c.args.self.now in
    let line = c.args.line in
    let within : line < length old.later = omega (arith, c.requires.exists, old.same_lines) in
    below_later c.args.limit line c.args.tearing c.args.mask.now c.args.want.now old.later c.age_below.new.self old.first within (c.age_below.ensures.ages is) (c.age_below.ensures.few is)

pub age_below-requires-2 : goal.age_below-requires-2
age_below-requires-2 g c =
    let old = c.args.self.now in
    let line = c.args.line in
    let no : is_some (page_at old.later line) ≡ false = search rules in
    let none : page_at old.later line ≡ None = none-of (page_at old.later line) no in (
      row_fits c.requires.shape,
      (
        c.requires.exists,
        (
          omega (arith, c.min.ensures),
          (
            λ page is. c.requires.young (by_first page) (tier-first (page_at old.later line) (page_at old.first line) page none is),
            (c.requires.shape, c.requires.whole),
          ),
        ),
      ),
    )

pub returns-clause-ages : goal.returns-clause-ages
returns-clause-ages g c is =
    let old = c.args.self.now in
    let line = c.args.line in
    let no : is_some (page_at old.later line) ≡ false = search rules in
    let none : page_at old.later line ≡ None = none-of (page_at old.later line) no in
    below_more c.min.result c.args.limit line c.args.tearing c.args.mask.now c.args.want.now _ _ (omega (arith, c.min.ensures))
    (below_first c.min.result line c.args.tearing c.args.mask.now c.args.want.now old.later old.first c.age_below-2.new.self c.requires.exists none
    (c.age_below-2.ensures.ages is) (c.age_below-2.ensures.few is))
