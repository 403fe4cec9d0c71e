use Rattle.std.proofs.Common.{◌∙◌, ap, arith, length, not, eqb}
use Rattle.std.specs.Prelude.{is_some}
use Rattle.line_pages.{specs.PageTable.page_at, proofs.TableLemmas.{has-is, pages-count}}
use Rattle.line_pages.proofs.page_table.PageTable.has.Goals as goal

pub get-requires : goal.get-requires
get-requires g c = omega (arith, c.requires, ap length c.self.view_is, pages-count c.self.inside.pages.pages c.self.inside.table)

pub returns : goal.returns
returns g c =
    ap (λ n. not (eqb n 0)) c.get.ensures ∙ has-is c.self.inside.pages.pages c.self.inside.table _ c.args.line c.self.invariant.paging
    ∙ ap (λ xs. is_some (page_at xs c.args.line)) c.self.view_is
