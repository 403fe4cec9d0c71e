use Rattle.std.proofs.Common.{◌≡◌, ◌+◌, ◌∙◌, ap, arith, get_or}
use Rattle.seeded_lines.{specs.Planes.bit_in, proofs.LevelLemmas.{number_lane, first_lanes, last_lanes}}
use Rattle.seeded_lines.proofs.levels.numbers.Goals as goal

pub returns-clause-first : goal.returns-clause-first
returns-clause-first c i low =
    let a = c.spread.result in
    let b = c.spread-2.result in
    let d = c.spread-3.result in
    let here : 0 + i ≡ i = omega arith in
    number_lane a b d (bit_in c.args.low i) (bit_in c.args.middle i) (bit_in c.args.high i) 0 i (omega arith) (omega arith) (omega arith) (omega arith) low
    (first_lanes a b d (omega arith) (omega arith) (omega arith))
    (ap (λ k. get_or a k 0) here ∙ c.spread.ensures i (omega arith)) (ap (λ k. get_or b k 0) here ∙ c.spread-2.ensures i (omega arith))
    (ap (λ k. get_or d k 0) here ∙ c.spread-3.ensures i (omega arith))

pub returns-clause-others : goal.returns-clause-others
returns-clause-others c i low =
    let a = c.spread.result in
    let b = c.spread-2.result in
    let d = c.spread-3.result in
    number_lane a b d (bit_in c.args.low (8 + i)) (bit_in c.args.middle (8 + i)) (bit_in c.args.high (8 + i)) 8 i (omega arith) (omega arith) (omega arith) (omega arith) low
    (last_lanes a b d (omega arith) (omega arith) (omega arith))
    (c.spread.ensures (8 + i) (omega arith)) (c.spread-2.ensures (8 + i) (omega arith)) (c.spread-3.ensures (8 + i) (omega arith))
