use Rattle.std.proofs.Common.{arith, ◌≡◌, ◌*◌, ◌+◌, length, ap, ap₂, sym, ◌∙◌}
use Rattle.cell_rows.{specs.Rows.{bit_of, members}, proofs.RowLemmas.{members_le, members_parts}}
use Rattle.cell_rows.proofs.row.Cells.count.Goals as goal

pub overflow_add-result : goal.overflow_add-result
overflow_add-result g c =
    let few = members_le (bit_of c.args.self.now.bits) (8 * length c.args.self.now.bits) in
    let more = members_le (bit_of c.args.self.now.meta) (8 * length c.args.self.now.meta) in
    omega arith

pub returns : goal.returns
returns g c =
    let bits : length c.args.self.now.bits ≡ g.row.B = omega arith in
    let meta : length c.args.self.now.meta ≡ g.row.M = omega arith in
    ap₂ (λ a b. a + b) (c.ones.ensures ∙ ap (λ n. members (bit_of c.args.self.now.bits) (8 * n)) bits)
    (c.ones-2.ensures ∙ ap (λ n. members (bit_of c.args.self.now.meta) (8 * n)) meta)
    ∙ sym (members_parts c.args.self.now bits)
