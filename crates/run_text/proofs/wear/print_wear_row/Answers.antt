use Rattle.run_text.{specs.WearText.wear_text, proofs.Gathered.{printed-wear_row, wear_text-part}}
use Rattle.run_text.proofs.wear.print_wear_row.Goals as goal
use Rattle.text_printer.proofs.Ending.{on_err_any}

pub returns-in_err-make_room-clause-prefix : goal.returns-in_err-make_room-clause-prefix
returns-in_err-make_room-clause-prefix g c =
    on_err_any c.from_residual.result _
    (λ before rows later h. wear_text-part before _ rows later (c.in_err-make_room.ensures.part before (wear_text rows) h))

pub returns-clause-ok : goal.returns-clause-ok
returns-clause-ok g c =
    λ before rows count h.
    printed-wear_row before _ c.make_room.new.text _ rows c.args.array_line c.args.bank c.args.pulses c.args.role c.print_role.ensures.after count
    (c.in_ok-make_room.ensures.printed before (wear_text rows) h)
