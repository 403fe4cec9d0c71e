use Rattle.std.proofs.Common.{◌≡◌, ◌+◌, ◌-◌, ◌/◌, ◌%◌, ◌<◌, ◌∙◌, sym, ap, arith, length, slice_index, rules, [], ℕ}
use Rattle.std.{specs.Prelude.vec_len, proofs.lemmas.List.get_or_default}
use Rattle.line_pages.proofs.TableLemmas.{covered, number-none, number-some, numbers-at, told}
use Rattle.line_pages.proofs.table.Table.get.Goals as goal

pub index-requires : goal.index-requires
index-requires c =
    let len : vec_len c.self.inside.blocks ≡ length c.self.inside.blocks.items = search rules in
    let here = (covered _ _ _ _ c.args.line _ c.self.invariant c.self.view_is c.requires).1 in
    omega (arith, len, here)

pub index-requires-in_default : goal.index-requires-in_default
index-requires-in_default c =
    let t = c.self.inside in
    let len : vec_len t.numbers ≡ length t.numbers.items = search rules in
    let here = (covered _ _ _ _ c.args.line _ c.self.invariant c.self.view_is c.requires).1 in
    let entry : slice_index t.blocks.items (c.args.line / 128) ≡ c.index.result.now = told t.blocks.items (c.args.line / 128) c.index.result.now here c.index.ensures in
    omega (arith, len, entry, c.self.invariant.each.paging.made (c.args.line / 128))

pub returns-in-0 : goal.returns-in-0
returns-in-0 c =
    let t = c.self.inside in
    let low = covered _ _ _ _ c.args.line _ c.self.invariant c.self.view_is c.requires in
    let none : slice_index t.blocks.items (c.args.line / 128) ≡ 0 = told t.blocks.items (c.args.line / 128) _ low.1 c.index.ensures ∙ c.in-0.is in
    sym (numbers-at t.blocks.items t.numbers.items t.lines c.args.line low.0 ∙ number-none t.blocks.items t.numbers.items c.args.line none)
    ∙ ap (λ xs. slice_index xs c.args.line) c.self.view_is

pub returns-in_default : goal.returns-in_default
returns-in_default c =
    let t = c.self.inside in
    let row = c.index-in_default.result.now in
    let low = covered _ _ _ _ c.args.line _ c.self.invariant c.self.view_is c.requires in
    let entry : slice_index t.blocks.items (c.args.line / 128) ≡ c.index.result.now = told t.blocks.items (c.args.line / 128) c.index.result.now low.1 c.index.ensures in
    let index : ℕ = c.index.result.now - 1 in
    let at : slice_index t.blocks.items (c.args.line / 128) ≡ index + 1 = entry ∙ omega arith in
    let made : index < length t.numbers.items = omega (arith, entry, at, c.self.invariant.each.paging.made (c.args.line / 128)) in
    ap (λ xs. slice_index xs (c.args.line % 128)) (c.index-in_default.ensures ∙ sym (get_or_default t.numbers.items index [] row made))
    ∙ sym (numbers-at t.blocks.items t.numbers.items t.lines c.args.line low.0 ∙ number-some t.blocks.items t.numbers.items c.args.line index at)
    ∙ ap (λ xs. slice_index xs c.args.line) c.self.view_is
