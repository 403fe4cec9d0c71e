use Rattle.std.proofs.Common.{◌∙◌, sym, ap}
use Rattle.run_text.{specs.Pulses.at_most_u64, proofs.Summed.{pulses_of_none, capped_sum_more}}
use Rattle.run_text.proofs.pulses.sum_pulses.Goals as goal

pub loop-line-init : goal.loop-line-init
loop-line-init g c = sym (ap at_most_u64 (pulses_of_none (g.A.CellArray.state c.args.array.now)))

pub loop-line-preserved : goal.loop-line-preserved
loop-line-preserved g c =
    c.add_pulses-sum.ensures
    ∙ capped_sum_more (g.A.CellArray.state c.args.array.now) c.loop-line.line c.loop-line.sum c.pulses.result c.loop-line.invariant c.pulses.ensures
