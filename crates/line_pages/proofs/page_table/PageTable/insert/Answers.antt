use Rattle.std.proofs.Common.{◌≡◌, ◌<◌, ◌∙◌, rules, ap, arith, length, set, Some, vec_len, subst, List, ℕ}
use Rattle.line_pages.specs.{PageTable.page_at, Table.{AreIdle, IsPaging}}
use Rattle.line_pages.proofs.TableLemmas.{idle_last, none-zero, pages-count, pages-more, pages-reused, paging_room, popped-none, popped-some, shelf_more, shelf_reused}
use Rattle.line_pages.proofs.page_table.PageTable.insert.Goals as goal

pub put-requires : goal.put-requires
put-requires g c =
    let old = c.self.inside in
    let is = popped-some _ old.idle.items c.pop.new.self.items c.in-Some.index c.pop.ensures.items c.in-Some.is in
    (idle_last old.table c.pop.new.self.items (length old.pages.pages) c.in-Some.index (subst (λ (xs : List ℕ). AreIdle old.table xs (length old.pages.pages)) is c.self.invariant.unused)).0

pub set-requires : goal.set-requires
set-requires g c = omega (arith, c.requires.exists, ap length c.self.view_is, pages-count c.self.inside.pages.pages c.self.inside.table)

pub overflow_add-index : goal.overflow_add-index
overflow_add-index g c =
    let old = c.self.inside in
    let is = popped-some _ old.idle.items c.pop.new.self.items c.in-Some.index c.pop.ensures.items c.in-Some.is in
    let low = (idle_last old.table c.pop.new.self.items (length old.pages.pages) c.in-Some.index (subst (λ (xs : List ℕ). AreIdle old.table xs (length old.pages.pages)) is c.self.invariant.unused)).0 in
    omega (arith, low, c.self.invariant.paging.most, c.self.invariant.paging.few)

pub returns-in-Some : goal.returns-in-Some
returns-in-Some g c =
    let old = c.self.inside in
    let line = c.args.line in
    let index = c.in-Some.index in
    let is = popped-some _ old.idle.items c.pop.new.self.items index c.pop.ensures.items c.in-Some.is in
    let last = idle_last old.table c.pop.new.self.items (length old.pages.pages) index (subst (λ (xs : List ℕ). AreIdle old.table xs (length old.pages.pages)) is c.self.invariant.unused) in
    let within : line < length old.table = omega (arith, c.requires.exists, ap length c.self.view_is, pages-count old.pages.pages old.table) in
    rw (c.put.ensures.pages, c.set.ensures)
    (pages-reused old.pages.pages old.table c.args.page _ line index c.self.invariant.paging last.0 last.1 within ∙ ap (λ xs. set xs line (Some c.args.page)) c.self.view_is)

pub invariant_of-self : goal.invariant_of-self
invariant_of-self g c =
    let old = c.self.inside in
    let line = c.args.line in
    let index = c.in-Some.index in
    let is = popped-some _ old.idle.items c.pop.new.self.items index c.pop.ensures.items c.in-Some.is in
    let within : line < length old.table = omega (arith, c.requires.exists, ap length c.self.view_is, pages-count old.pages.pages old.table) in
    let none = none-zero old.pages.pages old.table _ line c.self.invariant.paging (ap (λ xs. page_at xs line) c.self.view_is ∙ c.requires.none) in
    rw (c.put.ensures.pages, c.put.ensures.room, c.set.ensures, c.pop.ensures.capacity)
    (shelf_reused old.table old.idle.items c.pop.new.self.items old.pages.pages c.args.page _ _ line index c.self.invariant is within none)

pub push-requires : goal.push-requires
push-requires g c =
    let old = c.self.inside in
    let len : vec_len old.idle ≡ length old.idle.items = search rules in
    let empty = popped-none _ old.idle.items c.pop.new.self.items _ _ c.pop.ensures.cases c.pop.ensures.items len c.in-None.is in
    let paging = subst (λ (xs : List ℕ). IsPaging old.table old.pages.pages (length xs) old.pages.room) empty.0 c.self.invariant.paging in
    let within : c.args.line < length old.table = omega (arith, c.requires.exists, ap length c.self.view_is, pages-count old.pages.pages old.table) in
    let none = none-zero old.pages.pages old.table _ c.args.line c.self.invariant.paging (ap (λ xs. page_at xs c.args.line) c.self.view_is ∙ c.requires.none) in
    omega (arith, c.self.invariant.paging.room, paging_room old.table old.pages.pages _ c.args.line paging within none)

pub overflow_cast-index-in-None : goal.overflow_cast-index-in-None
overflow_cast-index-in-None g c = omega (arith, c.len-index.ensures, c.self.invariant.paging.most, c.self.invariant.paging.few)

pub overflow_add-index-in-None : goal.overflow_add-index-in-None
overflow_add-index-in-None g c =
    let old = c.self.inside in
    let len : vec_len old.idle ≡ length old.idle.items = search rules in
    let empty = popped-none _ old.idle.items c.pop.new.self.items _ _ c.pop.ensures.cases c.pop.ensures.items len c.in-None.is in
    let paging = subst (λ (xs : List ℕ). IsPaging old.table old.pages.pages (length xs) old.pages.room) empty.0 c.self.invariant.paging in
    let within : c.args.line < length old.table = omega (arith, c.requires.exists, ap length c.self.view_is, pages-count old.pages.pages old.table) in
    let none = none-zero old.pages.pages old.table _ c.args.line c.self.invariant.paging (ap (λ xs. page_at xs c.args.line) c.self.view_is ∙ c.requires.none) in
    omega (arith, c.len-index.ensures, c.self.invariant.paging.few, paging_room old.table old.pages.pages _ c.args.line paging within none)

pub set-requires-in-None : goal.set-requires-in-None
set-requires-in-None g c = omega (arith, c.requires.exists, ap length c.self.view_is, pages-count c.self.inside.pages.pages c.self.inside.table)

pub returns-in-None : goal.returns-in-None
returns-in-None g c =
    let old = c.self.inside in
    rw (c.push.ensures.pages, c.set-in-None.ensures, c.len-index.ensures)
    (pages-more old.pages.pages old.table c.args.page _ c.args.line c.self.invariant.paging ∙ ap (λ xs. set xs c.args.line (Some c.args.page)) c.self.view_is)

pub invariant_of-self-in-None : goal.invariant_of-self-in-None
invariant_of-self-in-None g c =
    let old = c.self.inside in
    let len : vec_len old.idle ≡ length old.idle.items = search rules in
    let empty = popped-none _ old.idle.items c.pop.new.self.items _ _ c.pop.ensures.cases c.pop.ensures.items len c.in-None.is in
    let within : c.args.line < length old.table = omega (arith, c.requires.exists, ap length c.self.view_is, pages-count old.pages.pages old.table) in
    let none = none-zero old.pages.pages old.table _ c.args.line c.self.invariant.paging (ap (λ xs. page_at xs c.args.line) c.self.view_is ∙ c.requires.none) in
    rw (c.push.ensures.pages, c.push.ensures.room, c.set-in-None.ensures, c.len-index.ensures, c.pop.ensures.capacity)
    (shelf_more old.table old.idle.items c.pop.new.self.items old.pages.pages c.args.page _ _ c.args.line c.self.invariant empty.0 empty.1 within none)
