use Rattle.std.proofs.Common.{◌||◌, ◌∙◌, ◌<◌, length, sym, ap, arith}
use Rattle.run_text.{specs.Shortfall.is_short, proofs.Counted.{any-more, any-here}}
use Rattle.run_text.proofs.shortfall.any_short.Goals as goal

pub returns-then-is_short : goal.returns-then-is_short
returns-then-is_short g c =
    let within : c.loop-before.before < length c.args.results.now = omega arith in
    sym (any-here is_short c.args.results.now c.loop-before.before c.get.result.now within c.get.ensures (sym c.is_short.ensures ∙ c.if-is_short.true))

pub loop-before-preserved : goal.loop-before-preserved
loop-before-preserved g c =
    let within : c.loop-before.before < length c.args.results.now = omega arith in
    any-more is_short c.args.results.now c.loop-before.before c.get.result.now within c.get.ensures
    ∙ ap (λ before. before || is_short c.get.result.now) c.loop-before.invariant
    ∙ sym c.is_short.ensures ∙ c.if-is_short.false
