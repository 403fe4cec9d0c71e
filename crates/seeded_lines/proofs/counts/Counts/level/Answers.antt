use Rattle.std.proofs.Common.{◌-◌, arith, ap, sym, refl, ◌∙◌}
use Rattle.seeded_lines.{specs.Planes.{bit_in, number_of}, proofs.CountLemmas.{block_count-bits, block_count-meta, kept_count-bits, kept_count-meta}}
use Rattle.seeded_lines.proofs.counts.Counts.level.Goals as goal

pub returns-then-block-clause-here : goal.returns-then-block-clause-here
returns-then-block-clause-here g c i low =
    block_count-bits _ c.args.block i (omega arith) c.requires.whole.0 (omega arith) low ∙ c.level.ensures.here i low
    ∙ ap (λ k. k - number_of (bit_in c.args.low i) (bit_in c.args.middle i) (bit_in c.args.high i))
    (sym (block_count-bits c.args.self.now c.args.block i (omega arith) c.requires.whole.0 (omega arith) low))

pub returns-then-block-clause-others : goal.returns-then-block-clause-others
returns-then-block-clause-others g c n apart =
    kept_count-bits c.args.self.now _ c.args.block n (omega arith) (omega arith) refl c.level.ensures.others apart

pub returns-else-block-clause-here : goal.returns-else-block-clause-here
returns-else-block-clause-here g c i low =
    block_count-meta _ c.args.block i (omega arith) c.requires.whole.0 (omega arith) ∙ c.level-else-block.ensures.here i low
    ∙ ap (λ k. k - number_of (bit_in c.args.low i) (bit_in c.args.middle i) (bit_in c.args.high i))
    (sym (block_count-meta c.args.self.now c.args.block i (omega arith) c.requires.whole.0 (omega arith)))

pub returns-else-block-clause-others : goal.returns-else-block-clause-others
returns-else-block-clause-others g c n apart =
    kept_count-meta c.args.self.now _ c.args.block n (omega arith) (omega arith) refl c.requires.whole.0 (omega arith) c.level-else-block.ensures.others apart
