use Rattle.std.proofs.Common.{ap, arith}
use Rattle.line_pages.{specs.Book.Kept, proofs.TableLemmas.{pages-blank, shelf_blank}}
use Rattle.line_pages.proofs.page_table.PageTable.blank.Goals as goal

pub returns : goal.returns
returns g c = pages-blank c.in_ok-blank-2.field-0.pages c.in_ok-blank.field-0 c.args.lines c.in_ok-blank.ensures

pub invariant_of-result : goal.invariant_of-result
invariant_of-result g c =
    let pages = c.in_ok-blank-2.field-0 in
    shelf_blank c.in_ok-blank.field-0 c.in_ok-with_capacity.field-0.items pages.pages pages.room _ c.args.lines c.in_ok-blank.ensures c.in_ok-with_capacity.ensures.items
    (ap (λ (k : Kept g.row.T.Denot). k.pages) c.in_ok-blank-2.ensures)
    (omega (arith, c.ranges.lines)) (omega (arith, ap (λ (k : Kept g.row.T.Denot). k.room) c.in_ok-blank-2.ensures)) (omega (arith, c.in_ok-with_capacity.ensures.capacity))
