use Rattle.std.proofs.Common.{◌≡◌, ◌*◌, ◌/◌, ◌∙◌, sym, ap, subst, arith}
use Rattle.std.specs.{Io.KnownBytes.Appends, Prelude.{OnErr, OnOk}}
use Rattle.pcm_io.specs.Giving.{AppendsPrefix}
use Rattle.energy_report.specs.EnergyText.{energy_report}
use Rattle.module_shape.specs.Addresses.{array_lines_of, module_of}
use Rattle.module_prints.proofs.Wearing.{lines-of-bank}
use Rattle.module_prints.proofs.energy.print_energy.Goals as goal

pub shape-shape-requires : goal.shape-shape-requires
shape-shape-requires g c = grind arith

pub array_lines-requires : goal.array_lines-requires
array_lines-requires g c = grind arith

pub banks-requires : goal.banks-requires
banks-requires g c = grind arith

pub nonzero_div-bank_lines : goal.nonzero_div-bank_lines
nonzero_div-bank_lines g c = grind arith

pub print_energy_report-requires-clause-size : goal.print_energy_report-requires-clause-size
print_energy_report-requires-clause-size g c =
    let shape = c.args.pcm.now.shape in
    let banks : c.banks-2.result ≡ shape.banks = cc in
    let lines : c.array_lines.result / c.banks.result ≡ array_lines_of (module_of shape) =
    lines-of-bank c.banks.result (array_lines_of (module_of shape)) c.array_lines.result (omega (arith, c.banks.ensures.number, c.shape-shape.ensures.in_range.some_banks)) cc in
    c.requires.size ∙ ap (λ b. b * array_lines_of (module_of shape)) (sym banks) ∙ ap (λ l. c.banks-2.result * l) (sym lines)

pub returns-clause-ok : goal.returns-clause-ok
returns-clause-ok g c =
    let shape = c.args.pcm.now.shape in
    let energy = (g.A.CellArray.state c.args.array.now).energy in
    let banks : c.banks-2.result ≡ shape.banks = cc in
    let lines : c.array_lines.result / c.banks.result ≡ array_lines_of (module_of shape) =
    lines-of-bank c.banks.result (array_lines_of (module_of shape)) c.array_lines.result (omega (arith, c.banks.ensures.number, c.shape-shape.ensures.in_range.some_banks)) cc in
    let same : energy_report energy c.banks-2.result (c.array_lines.result / c.banks.result) ≡ energy_report energy shape.banks (array_lines_of (module_of shape)) =
    ap (λ b. energy_report energy b (c.array_lines.result / c.banks.result)) banks ∙ ap (λ l. energy_report energy shape.banks l) lines in
    subst (λ text. OnOk c.print_energy_report.result (Appends (g.K.Sink.written c.args.out.now) (g.K.Sink.written c.print_energy_report.new.out) text)) same c.print_energy_report.ensures.ok

pub returns-clause-prefix : goal.returns-clause-prefix
returns-clause-prefix g c =
    let shape = c.args.pcm.now.shape in
    let energy = (g.A.CellArray.state c.args.array.now).energy in
    let banks : c.banks-2.result ≡ shape.banks = cc in
    let lines : c.array_lines.result / c.banks.result ≡ array_lines_of (module_of shape) =
    lines-of-bank c.banks.result (array_lines_of (module_of shape)) c.array_lines.result (omega (arith, c.banks.ensures.number, c.shape-shape.ensures.in_range.some_banks)) cc in
    let same : energy_report energy c.banks-2.result (c.array_lines.result / c.banks.result) ≡ energy_report energy shape.banks (array_lines_of (module_of shape)) =
    ap (λ b. energy_report energy b (c.array_lines.result / c.banks.result)) banks ∙ ap (λ l. energy_report energy shape.banks l) lines in
    subst (λ text. OnErr c.print_energy_report.result (AppendsPrefix (g.K.Sink.written c.args.out.now) (g.K.Sink.written c.print_energy_report.new.out) text)) same c.print_energy_report.ensures.prefix
