use Rattle.std.proofs.Common.{◌≡◌, ◌+◌, ◌-◌, ◌<◌, ◌∙◌, rules, sym, ap, arith, length, slice_index, set, None, vec_len}
use Rattle.line_pages.{specs.PageTable.page_at, proofs.TableLemmas.{idle_room, none-kept, pages-count, pages-freed, pages-none, shelf_freed}}
use Rattle.line_pages.proofs.page_table.PageTable.remove.Goals as goal

pub get-page-requires : goal.get-page-requires
get-page-requires g c = omega (arith, c.requires, ap length c.self.view_is, pages-count c.self.inside.pages.pages c.self.inside.table)

pub set-requires : goal.set-requires
set-requires g c = omega (arith, c.requires, ap length c.self.view_is, pages-count c.self.inside.pages.pages c.self.inside.table)

pub push_reserved-requires : goal.push_reserved-requires
push_reserved-requires g c =
    let old = c.self.inside in
    let within : c.args.line < length old.table = omega (arith, c.requires, ap length c.self.view_is, pages-count old.pages.pages old.table) in
    let len : vec_len old.idle ≡ length old.idle.items = search rules in
    let at : slice_index old.table c.args.line ≡ c.get-page.result - 1 + 1 = sym c.get-page.ensures ∙ omega arith in
    omega (arith, len, idle_room old.table old.pages.pages (length old.idle.items) _ c.args.line (c.get-page.result - 1) c.self.invariant.paging within at, c.self.invariant.room)

pub returns-then-page-ne0 : goal.returns-then-page-ne0
returns-then-page-ne0 g c =
    let old = c.self.inside in
    rw c.set.ensures (pages-freed old.pages.pages old.table c.args.line ∙ ap (λ xs. set xs c.args.line None) c.self.view_is)

pub returns-else-page-ne0 : goal.returns-else-page-ne0
returns-else-page-ne0 g c =
    let old = c.self.inside in
    let zero : slice_index old.table c.args.line ≡ 0 = sym c.get-page.ensures ∙ omega arith in
    none-kept c.args.self.now c.args.line (sym (ap (λ xs. page_at xs c.args.line) c.self.view_is) ∙ pages-none old.pages.pages old.table c.args.line zero)

pub invariant_of-self : goal.invariant_of-self
invariant_of-self g c =
    let old = c.self.inside in
    let within : c.args.line < length old.table = omega (arith, c.requires, ap length c.self.view_is, pages-count old.pages.pages old.table) in
    let at : slice_index old.table c.args.line ≡ c.get-page.result - 1 + 1 = sym c.get-page.ensures ∙ omega arith in
    rw (c.set.ensures, c.push_reserved.ensures.items, c.push_reserved.ensures.capacity)
    (shelf_freed old.table old.idle.items old.pages.pages _ _ c.args.line (c.get-page.result - 1) c.self.invariant within at)
