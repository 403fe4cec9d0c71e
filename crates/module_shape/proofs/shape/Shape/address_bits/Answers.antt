use Rattle.std.proofs.Common.{◌≡◌, ◌^◌, sym, ap, ◌∙◌, arith}
use Rattle.feistel_map.{specs.Log2.log2, proofs.Powers.{log2-between, bits_some, bits_large}}
use Rattle.module_shape.{specs.Limits.total_of, proofs.Bounds.lines_some}
use Rattle.module_shape.proofs.shape.Shape.address_bits.Goals as goal

is_log : (c : goal.After-ilog2) → c.ilog2.result ≡ log2 (total_of c.args.self.now)
is_log c =
    sym (log2-between _ _ c.ilog2.ensures.power_le c.ilog2.ensures.next_power_gt) ∙ ap log2 c.total.ensures.number

pub returns-clause-exact : goal.returns-clause-exact
returns-clause-exact c = is_log c

pub returns-clause-power : goal.returns-clause-power
returns-clause-power c = ap (λ n. 2 ^ n) (is_log c) ∙ c.total.ensures.in_range.whole_bits

pub returns-clause-some : goal.returns-clause-some
returns-clause-some c =
    let shape = c.args.self.now in
    let inv = c.total.ensures.in_range in
    let four = lines_some shape.banks shape.regions shape.lines inv.some_banks inv.some_regions inv.some_lines in
    bits_some _ c.total.result (omega (arith, four, c.total.ensures.number)) c.ilog2.ensures.next_power_gt

pub returns-clause-few : goal.returns-clause-few
returns-clause-few c =
    let inv = c.total.ensures.in_range in
    bits_large _ c.total.result (omega (arith, inv.few_in_all, c.total.ensures.number)) c.ilog2.ensures.power_le
