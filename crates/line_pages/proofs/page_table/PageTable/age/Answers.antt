use Rattle.std.proofs.Common.{◌≡◌, ◌+◌, ◌-◌, ◌<◌, ◌∙◌, sym, ap, subst, arith, length, length-set, slice_index, get_or, set, Some, List, Option}
use Rattle.std.specs.Prelude.{IsSome}
use Rattle.line_pages.{specs.PageTable.page_at, proofs.TableLemmas.{pages-count, pages-some, pages-written, shelf_kept, some-entry}}
use Rattle.line_pages.proofs.page_table.PageTable.age.Goals as goal
use Rattle.seeded_lines.{specs.Young.MayAge, proofs.SizeLemmas.row_fits}

pub get-requires : goal.get-requires
get-requires g c = omega (arith, c.requires.exists, ap length c.self.view_is, pages-count c.self.inside.pages.pages c.self.inside.table)

pub overflow_sub-index : goal.overflow_sub-index
overflow_sub-index g c =
    let some = some-entry c.self.inside.pages.pages c.self.inside.table c.args.line
    (subst (λ (xs : List (Option g.row.T.Denot)). IsSome (page_at xs c.args.line)) (sym c.self.view_is) c.requires.has) in
    omega (arith, c.get.ensures, some)

pub age-requires : goal.age-requires
age-requires g c =
    let some = some-entry c.self.inside.pages.pages c.self.inside.table c.args.line
    (subst (λ (xs : List (Option g.row.T.Denot)). IsSome (page_at xs c.args.line)) (sym c.self.view_is) c.requires.has) in
    let p = c.self.inside in
    let at : slice_index p.table c.args.line ≡ c.get.result - 1 + 1 = omega (arith, c.get.ensures, some) in
    let young : (page : g.row.T.Denot) → page ≡ get_or p.pages.pages (c.get.result - 1) page → MayAge g.T.YoungPage.room (g.T.YoungPage.young page) = λ page is.
    c.requires.young page
    (sym (ap (λ (xs : List (Option g.row.T.Denot)). page_at xs c.args.line) c.self.view_is)
    ∙ pages-some p.pages.pages p.table _ c.args.line (c.get.result - 1) page c.self.invariant.paging at is) in
    (row_fits c.requires.shape, (omega (arith, c.get.ensures, some, c.self.invariant.paging.made c.args.line), (young, (c.requires.shape, c.requires.whole))))

pub returns : goal.returns
returns g c =
    let p = c.self.inside in
    let line = c.args.line in
    let some = some-entry p.pages.pages p.table line
    (subst (λ (xs : List (Option g.row.T.Denot)). IsSome (page_at xs line)) (sym c.self.view_is) c.requires.has) in
    let at : slice_index p.table line ≡ c.get.result - 1 + 1 = omega (arith, c.get.ensures, some) in
    let within : line < length p.table = omega (arith, c.requires.exists, ap length c.self.view_is, pages-count p.pages.pages p.table) in
    let wears = c.age.ensures.ages in
    record {
      before = wears.before;
      after = wears.after;
      was =
          sym (ap (λ (xs : List (Option g.row.T.Denot)). page_at xs line) c.self.view_is)
          ∙ pages-some p.pages.pages p.table _ line (c.get.result - 1) wears.before c.self.invariant.paging at wears.was;
      is =
          rw wears.is
          (pages-written p.pages.pages p.table wears.after _ line (c.get.result - 1) c.self.invariant.paging at within
          ∙ ap (λ (xs : List (Option g.row.T.Denot)). set xs line (Some wears.after)) c.self.view_is);
      cells = wears.cells;
      pulses = wears.pulses;
    }

pub invariant_of-self : goal.invariant_of-self
invariant_of-self g c =
    let p = c.self.inside in
    rw c.age.ensures.room
    (shelf_kept p.table p.idle.items p.pages.pages c.age.new.self.pages _ _ c.self.invariant
    (ap length c.age.ensures.ages.is ∙ length-set p.pages.pages (c.get.result - 1) c.age.ensures.ages.after))
