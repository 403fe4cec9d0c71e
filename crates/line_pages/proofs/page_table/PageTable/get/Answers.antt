use Rattle.std.proofs.Common.{◌≡◌, ◌+◌, ◌-◌, ◌∙◌, sym, ap, arith, length, slice_index}
use Rattle.line_pages.{specs.PageTable.page_at, proofs.TableLemmas.{pages-count, pages-none, pages-some}}
use Rattle.line_pages.proofs.page_table.PageTable.get.Goals as goal

pub get-requires : goal.get-requires
get-requires g c = omega (arith, c.requires, ap length c.self.view_is, pages-count c.self.inside.pages.pages c.self.inside.table)

pub at-requires : goal.at-requires
at-requires g c = omega (arith, c.get.ensures, c.self.invariant.paging.made c.args.line)

pub returns-in-0 : goal.returns-in-0
returns-in-0 g c =
    sym (pages-none c.self.inside.pages.pages c.self.inside.table c.args.line (sym c.get.ensures ∙ c.in-0.is)) ∙ ap (λ xs. page_at xs c.args.line) c.self.view_is

pub returns-in_default : goal.returns-in_default
returns-in_default g c =
    let at : slice_index c.self.inside.table c.args.line ≡ c.get.result - 1 + 1 = sym c.get.ensures ∙ omega arith in
    sym (pages-some c.self.inside.pages.pages c.self.inside.table _ c.args.line (c.get.result - 1) c.at.result.now c.self.invariant.paging at c.at.ensures)
    ∙ ap (λ xs. page_at xs c.args.line) c.self.view_is
