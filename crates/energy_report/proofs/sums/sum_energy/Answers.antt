use Rattle.std.proofs.Common.{◌∙◌, sym, ap, Option}
use Rattle.cell_rows.specs.declared.array.LineEnergy.{LineEnergy}
use Rattle.energy_report.{specs.Sums.together, proofs.EnergyLemmas.{sum-more, sum-none}}
use Rattle.energy_report.proofs.sums.sum_energy.Goals as goal

pub loop-line-init : goal.loop-line-init
loop-line-init g c = sym (sum-none (g.A.CellArray.state c.args.array.now).energy c.args.from)

pub loop-line-preserved : goal.loop-line-preserved
loop-line-preserved g c =
    let energy = (g.A.CellArray.state c.args.array.now).energy in
    c.together-sum.ensures
    ∙ ap (λ (sum : Option LineEnergy). together sum c.energy.result) c.loop-line.invariant
    ∙ ap (together _) c.energy.ensures
    ∙ sym (sum-more energy c.args.from c.loop-line.line)
