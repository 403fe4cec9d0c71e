use Rattle.std.proofs.Common.{◌<◌, ◌≤◌, ◌*◌, ap, arith, List}
use Rattle.line_pages.proofs.BookLemmas.{empty-all, empty-more, empty-none}
use Rattle.line_pages.proofs.book.Book.blank.Goals as goal

pub loop-index-init : goal.loop-index-init
loop-index-init g c = rw c.new-chunks.ensures.items (empty-none c.args.lines)

pub loop-index-preserved : goal.loop-index-preserved
loop-index-preserved g c =
    let low : 65536 * c.loop-index.index < c.args.lines = (let test = c.loop-index-test.true in omega (arith, test)) in
    rw c.in_ok-push.ensures.items
    (empty-more c.loop-index.index c.args.lines c.min-next.result c.loop-index.chunks.items c.in_ok-with_capacity.field-0 c.loop-index.invariant low c.min-next.ensures
    c.in_ok-with_capacity.ensures.items c.in_ok-with_capacity.ensures.capacity)

pub returns : goal.returns
returns g c =
    let all : c.args.lines ≤ 65536 * c.loop-index.index = (let test = c.loop-index-test.false in omega (arith, test)) in
    ap (λ (xs : List g.row.T.Denot). record { pages = xs; room = c.args.lines }) (empty-all c.loop-index.index c.args.lines c.loop-index.chunks.items c.loop-index.invariant all).1

pub invariant_of-result : goal.invariant_of-result
invariant_of-result g c =
    let all : c.args.lines ≤ 65536 * c.loop-index.index = (let test = c.loop-index-test.false in omega (arith, test)) in
    ((empty-all c.loop-index.index c.args.lines c.loop-index.chunks.items c.loop-index.invariant all).0, omega arith, omega (arith, c.ranges.lines))
