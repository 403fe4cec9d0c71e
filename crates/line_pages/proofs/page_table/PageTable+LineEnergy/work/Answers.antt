use Rattle.std.proofs.Common.{◌≡◌, ◌+◌, ◌-◌, ◌<◌, ◌∙◌, sym, ap, arith, length, length-set, slice_index, get_or, set, Some, None, List, Option}
use Rattle.std.proofs.lemmas.List.{get_or_default}
use Rattle.cell_rows.specs.{Energy.no_energy, declared.array.LineEnergy.LineEnergy}
use Rattle.line_pages.{specs.Counting.{worked, energy_or_none}, specs.PageTable.page_at, proofs.TableLemmas.{pages-count, pages-none, pages-some, pages-written, shelf_kept}}
use Rattle.line_pages.proofs.page_table.PageTable+LineEnergy.work.Goals as goal

pub get-requires : goal.get-requires
get-requires c = omega (arith, c.requires, ap length c.self.view_is, pages-count c.self.inside.pages.pages c.self.inside.table)

pub begin-requires-clause-none : goal.begin-requires-clause-none
begin-requires-clause-none c =
    sym (ap (λ (xs : List (Option LineEnergy)). page_at xs c.args.line) c.self.view_is)
    ∙ pages-none c.self.inside.pages.pages c.self.inside.table c.args.line (sym c.get.ensures ∙ c.in-0.is)

pub returns-in-0 : goal.returns-in-0
returns-in-0 c =
    let none : page_at c.args.self.now c.args.line ≡ None =
    sym (ap (λ (xs : List (Option LineEnergy)). page_at xs c.args.line) c.self.view_is)
    ∙ pages-none c.self.inside.pages.pages c.self.inside.table c.args.line (sym c.get.ensures ∙ c.in-0.is) in
    c.begin.ensures
    ∙ ap (λ (e : LineEnergy). set c.args.self.now c.args.line (Some e)) (ap (λ (o : Option LineEnergy). worked c.args.work (energy_or_none o)) (sym none))

pub work-requires : goal.work-requires
work-requires c = omega (arith, c.get.ensures, c.self.invariant.paging.made c.args.line)

pub returns-in_default : goal.returns-in_default
returns-in_default c =
    let p = c.self.inside in
    let line = c.args.line in
    let index = c.get.result - 1 in
    let at : slice_index p.table line ≡ index + 1 = sym c.get.ensures ∙ omega arith in
    let within : line < length p.table = omega (arith, c.requires, ap length c.self.view_is, pages-count p.pages.pages p.table) in
    let old : LineEnergy = get_or p.pages.pages index no_energy in
    let low : index < length p.pages.pages = omega (arith, at, c.self.invariant.paging.made line) in
    let is : page_at c.args.self.now line ≡ Some old =
    sym (ap (λ (xs : List (Option LineEnergy)). page_at xs line) c.self.view_is)
    ∙ pages-some p.pages.pages p.table _ line index old c.self.invariant.paging at (get_or_default p.pages.pages index no_energy old low) in
    rw c.work.ensures.pages
    (pages-written p.pages.pages p.table (worked c.args.work old) _ line index c.self.invariant.paging at within
    ∙ ap (λ (xs : List (Option LineEnergy)). set xs line (Some (worked c.args.work old))) c.self.view_is
    ∙ ap (λ (o : Option LineEnergy). set c.args.self.now line (Some (worked c.args.work (energy_or_none o)))) (sym is))

pub invariant_of-self : goal.invariant_of-self
invariant_of-self c =
    let p = c.self.inside in
    rw c.work.ensures.room
    (shelf_kept p.table p.idle.items p.pages.pages c.work.new.self.pages _ _ c.self.invariant
    (ap length c.work.ensures.pages ∙ length-set p.pages.pages (c.get.result - 1) _))
