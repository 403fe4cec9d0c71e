use Rattle.std.proofs.Common.{◌≡◌, ◌++◌, ◌∙◌, ap, arith}
use Rattle.std.specs.Prelude.{decimal}
use Rattle.text_printer.proofs.Printed.{prints-none, prints-same, prints-then}
use Rattle.energy_report.{specs.EnergyText.{bank_rows, energy_row}, proofs.EnergyLemmas.{bank-within, rows-more, rows-none}}
use Rattle.energy_report.proofs.report.print_banks.Goals as goal

pub loop-bank-init : goal.loop-bank-init
loop-bank-init g c = (
  prints-same g.K.Sink.written g.K.Sink.faults _ _ _ _ (rows-none (g.A.CellArray.state c.args.array.now).energy c.args.lines) (prints-none g.K.Sink.written g.K.Sink.faults _),
  omega arith,
)

pub overflow_mul-bank : goal.overflow_mul-bank
overflow_mul-bank g c =
    let within = bank-within c.loop-bank.bank c.args.banks c.args.lines (omega (arith, c.loop-bank-test.true)) in
    omega (arith, c.requires.fit, within)

pub sum_energy-requires : goal.sum_energy-requires
sum_energy-requires g c =
    let within = bank-within c.loop-bank.bank c.args.banks c.args.lines (omega (arith, c.loop-bank-test.true)) in
    record { exist = omega (arith, c.requires.size, within); fit = omega (arith, c.requires.fit, within) }

pub loop-bank-preserved : goal.loop-bank-preserved
loop-bank-preserved g c =
    let energy = (g.A.CellArray.state c.args.array.now).energy in (
      prints-same g.K.Sink.written g.K.Sink.faults _ _ _ _
          (ap (λ sum. bank_rows energy c.args.lines c.loop-bank.bank ++ energy_row (decimal c.loop-bank.bank) sum) c.sum_energy.ensures ∙ rows-more energy c.args.lines c.loop-bank.bank)
          (prints-then g.K.Sink.written g.K.Sink.faults _ _ _ _ _ c.loop-bank.invariant.0 c.print_bank.ensures),
      omega arith,
    )

pub returns : goal.returns
returns g c =
    let done : c.loop-bank.bank ≡ c.args.banks = omega arith in
    prints-same g.K.Sink.written g.K.Sink.faults _ _ _ _ (ap (bank_rows (g.A.CellArray.state c.args.array.now).energy c.args.lines) done) c.loop-bank.invariant.0
