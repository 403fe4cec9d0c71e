use Rattle.std.proofs.Common.{◌≡◌, ◌/◌, sym, ap, arith}
use Rattle.lines_report.specs.LinesText.{lines_text}
use Rattle.module_shape.specs.Addresses.{array_lines_of, module_of}
use Rattle.module_prints.{specs.WearReports.{bank_with, cells_at}, proofs.Wearing.{lines-of-bank, reported-last, reported-more, reported-none, reported-part, reported-whole}}
use Rattle.module_prints.proofs.lines.print_lines.Goals as goal
use Rattle.text_printer.proofs.Ending.{on_err, on_err_any, on_ok}

pub loop-line-init : goal.loop-line-init
loop-line-init g c =
    let told = cells_at g.row.E (g.A.CellArray.state c.args.array.now) (g.A.TellsCells.changes c.args.array.now) in (
      reported-none (lines_text told) c.args.pcm.now (g.A.CellArray.state c.args.array.now) c.print_lines_header.new.text (g.K.Sink.written c.args.out.now)
          (c.print_lines_header.ensures.printed (g.K.Sink.written c.args.out.now) told),
      omega arith,
    )

pub returns-in_err-print_lines_row-clause-prefix : goal.returns-in_err-print_lines_row-clause-prefix
returns-in_err-print_lines_row-clause-prefix g c =
    let told = cells_at g.row.E (g.A.CellArray.state c.args.array.now) (g.A.TellsCells.changes c.args.array.now) in
    let had = c.loop-line.invariant.0 in
    let size = c.lines-line-end.ensures in
    let before = g.K.Sink.written c.args.out.now in
    on_err_any c.from_residual.result _
    (reported-part (lines_text told) c.args.pcm.now (g.A.CellArray.state c.args.array.now) c.loop-line.line before (g.K.Sink.written c.print_lines_row.new.out) had.rows
    c.shape-shape.ensures.in_range c.requires.size (omega arith) had.worn
    (λ later. c.in_err-print_lines_row.ensures.prefix before told had.rows later had.printed))

pub loop-line-preserved : goal.loop-line-preserved
loop-line-preserved g c =
    let told = cells_at g.row.E (g.A.CellArray.state c.args.array.now) (g.A.TellsCells.changes c.args.array.now) in
    let pcm = c.args.pcm.now in
    let lines : c.array_lines.result / c.banks.result ≡ array_lines_of (module_of pcm.shape) =
    lines-of-bank c.banks.result (array_lines_of (module_of pcm.shape)) c.array_lines.result (omega (arith, c.banks.ensures.number, c.shape-shape.ensures.in_range.some_banks)) cc in
    let bank : c.loop-line.line / (c.array_lines.result / c.banks.result) ≡ bank_with pcm.shape c.loop-line.line = ap (λ l. c.loop-line.line / l) lines in (
      reported-more (lines_text told) pcm (g.A.CellArray.state c.args.array.now) c.loop-line.line c.loop-line.text c.print_lines_row.new.text (g.K.Sink.written c.args.out.now) (g.K.Sink.written c.loop-line.out)
          (g.K.Sink.written c.print_lines_row.new.out) (c.loop-line.line / (c.array_lines.result / c.banks.result)) c.pulses.result c.role-role.result c.loop-line.invariant.0 bank c.pulses.ensures c.role-role.ensures
          (λ before rows count. c.in_ok-print_lines_row.ensures.ok before told rows count (sym c.line_cells-cells.ensures)),
      omega (arith, c.loop-line.invariant.1, c.in_ok-print_lines_row.ensures.never_falls),
    )

pub returns-clause-ok : goal.returns-clause-ok
returns-clause-ok g c =
    let told = cells_at g.row.E (g.A.CellArray.state c.args.array.now) (g.A.TellsCells.changes c.args.array.now) in
    let size = c.lines-line-end.ensures in
    on_ok c.print_rest.result _ _ c.print_rest.ensures.printed
    (λ writes. reported-whole (lines_text told) c.args.pcm.now (g.A.CellArray.state c.args.array.now) c.loop-line.line c.loop-line.text (g.K.Sink.written c.args.out.now) (g.K.Sink.written c.loop-line.out)
    (g.K.Sink.written c.print_rest.new.out) (omega arith) c.loop-line.invariant.0 writes)

pub returns-clause-prefix : goal.returns-clause-prefix
returns-clause-prefix g c =
    let told = cells_at g.row.E (g.A.CellArray.state c.args.array.now) (g.A.TellsCells.changes c.args.array.now) in
    let size = c.lines-line-end.ensures in
    on_err c.print_rest.result _ _ c.print_rest.ensures.part
    (λ writes. reported-last (lines_text told) c.args.pcm.now (g.A.CellArray.state c.args.array.now) c.loop-line.line c.loop-line.text (g.K.Sink.written c.args.out.now) (g.K.Sink.written c.loop-line.out)
    (g.K.Sink.written c.print_rest.new.out) (omega arith) c.loop-line.invariant.0 writes)

pub shape-shape-requires : goal.shape-shape-requires
shape-shape-requires g c = grind arith

pub array_lines-requires : goal.array_lines-requires
array_lines-requires g c = grind arith

pub banks-requires : goal.banks-requires
banks-requires g c = grind arith

pub nonzero_div-bank_lines : goal.nonzero_div-bank_lines
nonzero_div-bank_lines g c = grind arith

pub print_lines_header-requires : goal.print_lines_header-requires
print_lines_header-requires g c = grind arith

pub role-role-requires : goal.role-role-requires
role-role-requires g c = grind arith

pub nonzero_div-line : goal.nonzero_div-line
nonzero_div-line g c = grind arith

pub pulses-requires : goal.pulses-requires
pulses-requires g c = grind arith

pub print_lines_row-requires : goal.print_lines_row-requires
print_lines_row-requires g c = grind arith

pub returns-in_err-print_lines_row-clause-ok : goal.returns-in_err-print_lines_row-clause-ok
returns-in_err-print_lines_row-clause-ok g c = grind arith

pub returns-in_err-print_lines_row-clause-fault : goal.returns-in_err-print_lines_row-clause-fault
returns-in_err-print_lines_row-clause-fault g c = grind arith

pub loop-line-smaller : goal.loop-line-smaller
loop-line-smaller g c = grind arith

pub print_rest-requires : goal.print_rest-requires
print_rest-requires g c κs = grind arith

pub returns-clause-fault : goal.returns-clause-fault
returns-clause-fault g c = grind arith

pub returns-clause-never_falls : goal.returns-clause-never_falls
returns-clause-never_falls g c = grind arith
