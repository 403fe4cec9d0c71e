use Rattle.std.proofs.Common.{◌≡◌, ◌/◌, ap, arith}
use Rattle.run_text.specs.WearText.{wear_text}
use Rattle.text_printer.proofs.Ending.{on_err, on_err_any, on_ok}
use Rattle.module_shape.specs.Addresses.{array_lines_of, module_of}
use Rattle.module_prints.{specs.WearReports.bank_with, proofs.Wearing.{lines-of-bank, reported-last, reported-more, reported-none, reported-part, reported-whole}}
use Rattle.module_prints.proofs.wear.print_wear.Goals as goal

pub loop-line-init : goal.loop-line-init
loop-line-init g c = (
  reported-none wear_text c.args.pcm.now (g.A.CellArray.state c.args.array.now) c.print_wear_header.new.text (g.K.Sink.written c.args.out.now)
      (c.print_wear_header.ensures.printed (g.K.Sink.written c.args.out.now)),
  omega arith,
)

pub returns-in_err-print_wear_row-clause-prefix : goal.returns-in_err-print_wear_row-clause-prefix
returns-in_err-print_wear_row-clause-prefix g c =
    let had = c.loop-line.invariant.0 in
    let size = c.lines-line-end.ensures in
    let before = g.K.Sink.written c.args.out.now in
    on_err_any c.from_residual.result _
    (reported-part wear_text c.args.pcm.now (g.A.CellArray.state c.args.array.now) c.loop-line.line before (g.K.Sink.written c.print_wear_row.new.out) had.rows
    c.shape-shape.ensures.in_range c.requires.size (omega arith) had.worn
    (λ later. c.in_err-print_wear_row.ensures.prefix before had.rows later had.printed))

pub loop-line-preserved : goal.loop-line-preserved
loop-line-preserved g c =
    let pcm = c.args.pcm.now in
    let lines : c.array_lines.result / c.banks.result ≡ array_lines_of (module_of pcm.shape) =
    lines-of-bank c.banks.result (array_lines_of (module_of pcm.shape)) c.array_lines.result (omega (arith, c.banks.ensures.number, c.shape-shape.ensures.in_range.some_banks)) cc in
    let bank : c.loop-line.line / (c.array_lines.result / c.banks.result) ≡ bank_with pcm.shape c.loop-line.line = ap (λ l. c.loop-line.line / l) lines in (
      reported-more wear_text pcm (g.A.CellArray.state c.args.array.now) c.loop-line.line c.loop-line.text c.print_wear_row.new.text (g.K.Sink.written c.args.out.now) (g.K.Sink.written c.loop-line.out)
          (g.K.Sink.written c.print_wear_row.new.out) (c.loop-line.line / (c.array_lines.result / c.banks.result)) c.pulses.result c.role-role.result c.loop-line.invariant.0 bank c.pulses.ensures c.role-role.ensures
          c.in_ok-print_wear_row.ensures.ok,
      omega (arith, c.loop-line.invariant.1, c.in_ok-print_wear_row.ensures.never_falls),
    )

pub returns-clause-ok : goal.returns-clause-ok
returns-clause-ok g c =
    let size = c.lines-line-end.ensures in
    on_ok c.print_rest.result _ _ c.print_rest.ensures.printed
    (λ writes. reported-whole wear_text c.args.pcm.now (g.A.CellArray.state c.args.array.now) c.loop-line.line c.loop-line.text (g.K.Sink.written c.args.out.now) (g.K.Sink.written c.loop-line.out)
    (g.K.Sink.written c.print_rest.new.out) (omega arith) c.loop-line.invariant.0 writes)

pub returns-clause-prefix : goal.returns-clause-prefix
returns-clause-prefix g c =
    let size = c.lines-line-end.ensures in
    on_err c.print_rest.result _ _ c.print_rest.ensures.part
    (λ writes. reported-last wear_text c.args.pcm.now (g.A.CellArray.state c.args.array.now) c.loop-line.line c.loop-line.text (g.K.Sink.written c.args.out.now) (g.K.Sink.written c.loop-line.out)
    (g.K.Sink.written c.print_rest.new.out) (omega arith) c.loop-line.invariant.0 writes)
