use Rattle.std.proofs.Common.{◌≡◌, ◌/◌, ◌∙◌, ap, arith, sym}
use Rattle.text_printer.proofs.Ending.{on_err_any}
use Rattle.module_prints.{specs.PulsedLines.pulsed_text, specs.WearReports.cells_at, proofs.Pulsing.{next-none, next-some, pulsed-part}}
use Rattle.module_prints.proofs.pulsed.print_next.Goals as goal

pub returns-then-left_out-clause-ok : goal.returns-then-left_out-clause-ok
returns-then-left_out-clause-ok g c =
    let told = cells_at g.row.E (g.A.CellArray.state c.args.array.now) (g.A.TellsCells.changes c.args.array.now) in
    let none : c.pulses-pulses.result ≡ 0 = grind arith in
    next-none c.args.report told c.args.pcm.now (g.A.CellArray.state c.args.array.now) c.requires.in_range c.requires.size c.args.line c.requires.exists (sym c.pulses-pulses.ensures ∙ none)
    c.args.text.now (g.K.Sink.written c.args.out.now)

pub returns-in_err-make_room-clause-prefix : goal.returns-in_err-make_room-clause-prefix
returns-in_err-make_room-clause-prefix g c =
    let told = cells_at g.row.E (g.A.CellArray.state c.args.array.now) (g.A.TellsCells.changes c.args.array.now) in
    on_err_any c.from_residual.result _
    (λ before rows later h. pulsed-part c.args.report told before _ rows later (c.in_err-make_room.ensures.part before (pulsed_text c.args.report told rows) h))

pub returns-clause-ok : goal.returns-clause-ok
returns-clause-ok g c =
    let told = cells_at g.row.E (g.A.CellArray.state c.args.array.now) (g.A.TellsCells.changes c.args.array.now) in
    next-some c.args.report told c.args.pcm.now (g.A.CellArray.state c.args.array.now) c.args.line (c.args.line / c.args.bank_lines) c.pulses-pulses.result c.role-role.result
    (ap (λ l. c.args.line / l) c.requires.bank_lines) c.pulses-pulses.ensures (omega arith) c.role-role.ensures
    c.args.text.now c.make_room.new.text c.push_line.new.text (g.K.Sink.written c.args.out.now) (g.K.Sink.written c.make_room.new.out) c.in_ok-make_room.ensures.printed c.push_line.ensures
