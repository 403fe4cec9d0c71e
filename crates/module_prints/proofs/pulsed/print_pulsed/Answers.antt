use Rattle.std.proofs.Common.{◌≡◌, ◌/◌, ◌∙◌, ap, arith}
use Rattle.std.specs.Io.KnownBytes.{Appends}
use Rattle.run_text.proofs.Gathered.{printed-first}
use Rattle.text_printer.proofs.Ending.{on_err, on_err_any, on_ok}
use Rattle.pcm_io.specs.Giving.{AppendsPrefix}
use Rattle.module_shape.specs.Addresses.{array_lines_of, module_of}
use Rattle.module_prints.{specs.PulsedLines.header_of, specs.WearReports.cells_at, proofs.Pulsing.{pulsed-broken, pulsed-more, pulsed-none, pulsed-whole}}
use Rattle.module_prints.proofs.Wearing.{lines-of-bank}
use Rattle.module_prints.proofs.pulsed.print_pulsed.Goals as goal

pub loop-line-init : goal.loop-line-init
loop-line-init g c =
    let told = cells_at g.row.E (g.A.CellArray.state c.args.array.now) (g.A.TellsCells.changes c.args.array.now) in
    let before = g.K.Sink.written c.args.out.now in (
      pulsed-none c.args.report told c.args.pcm.now (g.A.CellArray.state c.args.array.now) c.print_header.new.text before
          (rw (c.print_header.ensures, c.requires.room) (printed-first before (header_of c.args.report))),
      omega arith,
      ap (λ t. t.limit) c.print_header.ensures ∙ ap (λ t. t.limit) c.requires.room,
    )

pub print_next-requires : goal.print_next-requires
print_next-requires g c =
    let pcm = c.args.pcm.now in
    let lines : c.array_lines.result / c.banks.result ≡ array_lines_of (module_of pcm.shape) =
    lines-of-bank c.banks.result (array_lines_of (module_of pcm.shape)) c.array_lines.result (omega (arith, c.banks.ensures.number, c.shape-shape.ensures.in_range.some_banks)) cc in
    let limit = c.loop-line.invariant.2 in
    let size = c.lines-line-end.ensures in
    (omega arith, (c.requires.layout, (omega arith, (c.requires.size, (c.shape-shape.ensures.in_range, (lines, omega (arith, c.loop-line-test.true)))))))

pub returns-in_err-print_next-clause-prefix : goal.returns-in_err-print_next-clause-prefix
returns-in_err-print_next-clause-prefix g c =
    let told = cells_at g.row.E (g.A.CellArray.state c.args.array.now) (g.A.TellsCells.changes c.args.array.now) in
    let size = c.lines-line-end.ensures in
    on_err_any c.from_residual.result _
    (pulsed-broken c.args.report told c.args.pcm.now (g.A.CellArray.state c.args.array.now) c.loop-line.line c.loop-line.text (g.K.Sink.written c.args.out.now) (g.K.Sink.written c.loop-line.out) (g.K.Sink.written c.print_next.new.out)
    c.shape-shape.ensures.in_range c.requires.size (omega arith) c.loop-line.invariant.0 c.in_err-print_next.ensures.prefix)

pub loop-line-preserved : goal.loop-line-preserved
loop-line-preserved g c =
    let told = cells_at g.row.E (g.A.CellArray.state c.args.array.now) (g.A.TellsCells.changes c.args.array.now) in (
      pulsed-more c.args.report told c.args.pcm.now (g.A.CellArray.state c.args.array.now) c.loop-line.line c.loop-line.text c.print_next.new.text (g.K.Sink.written c.args.out.now) (g.K.Sink.written c.loop-line.out)
          (g.K.Sink.written c.print_next.new.out) c.loop-line.invariant.0 c.in_ok-print_next.ensures.ok,
      omega (arith, c.loop-line.invariant.1, c.print_next.ensures.never_falls),
      c.print_next.ensures.limit ∙ c.loop-line.invariant.2,
    )

pub returns-clause-ok : goal.returns-clause-ok
returns-clause-ok g c =
    let told = cells_at g.row.E (g.A.CellArray.state c.args.array.now) (g.A.TellsCells.changes c.args.array.now) in
    let size = c.lines-line-end.ensures in
    on_ok c.print_rest.result _ _ c.print_rest.ensures.printed
    (λ writes. pulsed-whole c.args.report told c.args.pcm.now (g.A.CellArray.state c.args.array.now) c.loop-line.line c.loop-line.text (g.K.Sink.written c.args.out.now) (g.K.Sink.written c.loop-line.out)
    (λ whole. Appends (g.K.Sink.written c.args.out.now) (g.K.Sink.written c.print_rest.new.out) whole) (omega arith) c.loop-line.invariant.0 (writes (g.K.Sink.written c.args.out.now)))

pub returns-clause-prefix : goal.returns-clause-prefix
returns-clause-prefix g c =
    let told = cells_at g.row.E (g.A.CellArray.state c.args.array.now) (g.A.TellsCells.changes c.args.array.now) in
    let size = c.lines-line-end.ensures in
    on_err c.print_rest.result _ _ c.print_rest.ensures.part
    (λ writes. pulsed-whole c.args.report told c.args.pcm.now (g.A.CellArray.state c.args.array.now) c.loop-line.line c.loop-line.text (g.K.Sink.written c.args.out.now) (g.K.Sink.written c.loop-line.out)
    (λ whole. AppendsPrefix (g.K.Sink.written c.args.out.now) (g.K.Sink.written c.print_rest.new.out) whole) (omega arith) c.loop-line.invariant.0 (writes (g.K.Sink.written c.args.out.now)))
