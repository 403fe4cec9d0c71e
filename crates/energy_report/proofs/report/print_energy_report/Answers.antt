use Rattle.std.proofs.Common.{◌∙◌, ap, rules}
use Rattle.text_printer.proofs.{Ending.tells-whole, Printed.{prints-same, prints-then}}
use Rattle.energy_report.specs.{EnergyText.all_row, Sums.energy_of}
use Rattle.energy_report.proofs.report.print_energy_report.Goals as goal

pub returns : goal.returns
returns g c =
    let w = g.K.Sink.written in
    let f = g.K.Sink.faults in
    let last = prints-same w f _ _ _ _ (ap all_row (c.sum_energy.ensures ∙ ap (energy_of (g.A.CellArray.state c.args.array.now).energy 0) (c.lines-all.ensures ∙ c.requires.size))) c.print_all.ensures in
    let printed = prints-then w f _ _ _ _ _ c.push.ensures (prints-then w f _ _ _ _ _ c.print_banks.ensures last) in
    tells-whole w f _ _ _ _ c.finish.result _ _ _ c.new-printer.ensures.printed printed c.finish.ensures (search (rules, printed.out))
