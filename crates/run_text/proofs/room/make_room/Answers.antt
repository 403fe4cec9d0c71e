use Rattle.run_text.proofs.Gathered.{printed-cleared, printed-part}
use Rattle.run_text.proofs.room.make_room.Goals as goal
use Rattle.text_printer.proofs.Ending.{on_err_any}

pub returns-in_err-write_all-clause-part : goal.returns-in_err-write_all-clause-part
returns-in_err-write_all-clause-part g c =
    on_err_any c.from_residual.result _
    (λ before whole h. printed-part before _ _ c.args.text.now whole (rw c.bytes.ensures at c.in_err-write_all.ensures.prefix) h)

pub returns-in_ok-write_all-clause-printed : goal.returns-in_ok-write_all-clause-printed
returns-in_ok-write_all-clause-printed g c =
    λ before whole h. printed-cleared before _ _ c.args.text.now c.clear.new.self c.bytes.result.now whole c.bytes.ensures c.clear.ensures c.in_ok-write_all.ensures.ok h
