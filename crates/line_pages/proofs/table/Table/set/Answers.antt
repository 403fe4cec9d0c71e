use Rattle.std.proofs.Common.{◌≡◌, ◌/◌, ◌%◌, ◌<◌, ◌∙◌, ap, arith, length, length-set, rules, get_or, set, sym, []}
use Rattle.std.{specs.Prelude.vec_len, proofs.lemmas.List.get_or_default}
use Rattle.line_pages.proofs.TableLemmas.{blocks-written, covered, numbers-same, numbers-written}
use Rattle.line_pages.proofs.table.Table.set.Goals as goal

pub own_block-index-requires-clause-exists : goal.own_block-index-requires-clause-exists
own_block-index-requires-clause-exists c = (covered _ _ _ _ c.args.line _ c.self.invariant c.self.view_is c.requires).1

pub index_mut-numbers-requires : goal.index_mut-numbers-requires
index_mut-numbers-requires c =
    let len : vec_len c.own_block-index.new.numbers ≡ length c.own_block-index.new.numbers.items = search rules in
    omega (arith, len, c.own_block-index.ensures.made, c.own_block-index.ensures.blocks.paging.made (c.args.line / 128))

-- the numbers of the line's block, before the write
pub returns : goal.returns
returns c =
    let t = c.self.inside in
    let new = c.own_block-index.new in
    let index = c.own_block-index.result in
    let low = covered _ _ _ _ c.args.line _ c.self.invariant c.self.view_is c.requires in
    let made : index < length new.numbers.items = omega (arith, c.own_block-index.ensures.made, c.own_block-index.ensures.blocks.paging.made (c.args.line / 128)) in
    let row : c.index_mut-numbers.result.now ≡ get_or new.numbers.items index [] =
    c.index_mut-numbers.ensures.value ∙ sym (get_or_default new.numbers.items index [] c.index_mut-numbers.result.now made) in
    numbers-written new.blocks.items new.numbers.items _ t.lines _ c.args.line index c.args.number c.own_block-index.ensures.blocks low.0 c.own_block-index.ensures.made
    (ap (λ xs. set xs (c.args.line % 128) c.args.number) row)
    ∙ ap (λ xs. set xs c.args.line c.args.number) (numbers-same t.blocks.items new.blocks.items t.numbers.items new.numbers.items t.lines c.own_block-index.ensures.same ∙ c.self.view_is)

pub invariant_of-self : goal.invariant_of-self
invariant_of-self c =
    let new = c.own_block-index.new in
    let index = c.own_block-index.result in
    let made : index < length new.numbers.items = omega (arith, c.own_block-index.ensures.made, c.own_block-index.ensures.blocks.paging.made (c.args.line / 128)) in
    let row : c.index_mut-numbers.result.now ≡ get_or new.numbers.items index [] =
    c.index_mut-numbers.ensures.value ∙ sym (get_or_default new.numbers.items index [] c.index_mut-numbers.result.now made) in
    record {
      each =
          blocks-written new.blocks.items new.numbers.items _ _ index c.own_block-index.ensures.blocks
          (length-set c.index_mut-numbers.result.now (c.args.line % 128) c.args.number ∙ ap length row ∙ c.own_block-index.ensures.blocks.whole index made);
      covered = omega (arith, c.self.invariant.covered, c.own_block-index.ensures.count);
      few = c.self.invariant.few;
    }
