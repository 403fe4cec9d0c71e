use Rattle.std.proofs.Common.{◌^◌, ap, ◌∙◌, arith}
use Rattle.feistel_map.{specs.Network.{network_of, feistel}, proofs.Powers.{bits_some, bits_large}}
use Rattle.module_shape.specs.Limits.{large_limits}
use Rattle.pcm_image.{specs.Giving.head_view, specs.Saved.total_in, proofs.Heads.{head-fits, is_log}}
use Rattle.pcm_image.proofs.standing.mixed.Goals as goal

pub new-requires-clause-some_bits : goal.new-requires-clause-some_bits
new-requires-clause-some_bits c = bits_some _ c.lines_of.result c.lines_of.ensures.some c.ilog2.ensures.next_power_gt

pub new-requires-clause-few_bits : goal.new-requires-clause-few_bits
new-requires-clause-few_bits c = omega (arith, bits_large _ c.lines_of.result c.lines_of.ensures.few c.ilog2.ensures.power_le)

pub forward-requires : goal.forward-requires
forward-requires c =
    let e = ap (λ n. 2 ^ n) (is_log c.ilog2.result c.lines_of.result (total_in (head_view c.args.head)) c.ilog2.ensures.power_le c.ilog2.ensures.next_power_gt c.lines_of.ensures.is) ∙ (head-fits large_limits (head_view c.args.head) c.requires.head).power in
    let bits = ap (λ n. n.bits) c.new.ensures.keys in
    rw bits (rw e c.requires.exists)

pub returns-clause-is : goal.returns-clause-is
returns-clause-is c =
    c.forward.ensures.mixed
    ∙ ap (λ n. feistel n c.args.line) (c.new.ensures.keys ∙ ap (λ b. network_of b c.args.head.seed) (is_log c.ilog2.result c.lines_of.result (total_in (head_view c.args.head)) c.ilog2.ensures.power_le c.ilog2.ensures.next_power_gt c.lines_of.ensures.is))

pub returns-clause-within : goal.returns-clause-within
returns-clause-within c =
    let e = ap (λ n. 2 ^ n) (is_log c.ilog2.result c.lines_of.result (total_in (head_view c.args.head)) c.ilog2.ensures.power_le c.ilog2.ensures.next_power_gt c.lines_of.ensures.is) ∙ (head-fits large_limits (head_view c.args.head) c.requires.head).power in
    let bits = ap (λ n. n.bits) c.new.ensures.keys in
    rw (← e) (rw (← bits) c.forward.ensures.within)
