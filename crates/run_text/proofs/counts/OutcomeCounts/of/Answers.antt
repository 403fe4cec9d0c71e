use Rattle.std.proofs.Common.{◌∙◌, arith}
use Rattle.run_text.proofs.Counted.{counted-before, counts-more}
use Rattle.run_text.proofs.counts.OutcomeCounts.of.Goals as goal

pub count-requires : goal.count-requires
count-requires g c = omega (arith, counted-before c.loop-before.counts c.args.results.now c.loop-before.before c.loop-before.invariant)

pub loop-before-preserved : goal.loop-before-preserved
loop-before-preserved g c =
    c.count.ensures ∙ counts-more c.loop-before.counts c.args.results.now c.loop-before.before c.get.result.now (omega arith) c.get.ensures c.loop-before.invariant
