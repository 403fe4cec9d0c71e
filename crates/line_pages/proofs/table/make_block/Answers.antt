use Rattle.std.proofs.Common.{◌≡◌, arith, length, rules, refl}
use Rattle.std.specs.Prelude.{vec_len}
use Rattle.line_pages.proofs.TableLemmas.{blocks-more, more-same, paging_room}
use Rattle.line_pages.proofs.table.make_block.Goals as goal

pub returns-clause-same : goal.returns-clause-same
returns-clause-same c line =
    let numbers = c.args.numbers.now.items in
    let index : c.len-index.result ≡ length numbers = search rules in
    rw (c.push_reserved.ensures.items, index)
    (more-same c.args.blocks.now.items numbers _ _ c.args.block line c.requires.blocks c.requires.exists c.requires.none refl)

pub returns-clause-blocks : goal.returns-clause-blocks
returns-clause-blocks c =
    let numbers = c.args.numbers.now.items in
    let index : c.len-index.result ≡ length numbers = search rules in
    rw (c.push_reserved.ensures.items, c.push_reserved.ensures.capacity, index)
    (blocks-more c.args.blocks.now.items numbers _ _ c.args.block c.requires.blocks c.requires.exists c.requires.none refl)

pub push_reserved-requires : goal.push_reserved-requires
push_reserved-requires c =
    let numbers = c.args.numbers.now in
    let len : vec_len numbers ≡ length numbers.items = search rules in
    omega (arith, len, c.requires.blocks.paging.room, paging_room c.args.blocks.now.items numbers.items _ c.args.block c.requires.blocks.paging c.requires.exists c.requires.none)
