use Rattle.std.proofs.Common.{◌+◌, refl, sym}
use Rattle.trace_stream.{specs.Machine.state_of, specs.Stream.{IsPlainNext, Standing}, proofs.PlainNext.{plain-asks, plain-faulty, plain-lawful}}
use Rattle.trace_stream.proofs.stream.TraceStream.take_plain.Goals as goal

pub returns-in-Ok-clause-ok : goal.returns-in-Ok-clause-ok
returns-in-Ok-clause-ok g c =
    let old : Standing = record { arrived = c.self.inside.records.incoming; state = state_of c.self.inside.records.place; rows = c.self.inside.rows; tick = c.self.inside.tick; lines = c.self.inside.lines } in
    let next : IsPlainNext old c.args.row = rw (← c.self.view_is) at c.requires.next in
    let new : Standing = record { arrived = c.pass.new.self; state = state_of c.self.inside.records.place; rows = c.self.inside.rows + 1; tick = c.in-Ok.event.tick; lines = c.self.inside.lines } in
    rw (← c.self.view_is) (plain-asks g.row.B old c.args.row c.requires.small next new c.in-Ok.event (rw c.bytes.ensures at (sym c.in-Ok.ensures)) next.starts c.pass.ensures.bytes refl refl refl)

pub returns-in-Ok-clause-lawful : goal.returns-in-Ok-clause-lawful
returns-in-Ok-clause-lawful g c =
    let old : Standing = record { arrived = c.self.inside.records.incoming; state = state_of c.self.inside.records.place; rows = c.self.inside.rows; tick = c.self.inside.tick; lines = c.self.inside.lines } in
    let next : IsPlainNext old c.args.row = rw (← c.self.view_is) at c.requires.next in
    rw (← c.self.view_is) (plain-lawful g.row.B old c.args.row c.requires.small next c.in-Ok.event c.self.invariant.0 (rw c.bytes.ensures at (sym c.in-Ok.ensures)))

pub returns-in-Err-clause-fault : goal.returns-in-Err-clause-fault
returns-in-Err-clause-fault g c =
    let old : Standing = record { arrived = c.self.inside.records.incoming; state = state_of c.self.inside.records.place; rows = c.self.inside.rows; tick = c.self.inside.tick; lines = c.self.inside.lines } in
    let next : IsPlainNext old c.args.row = rw (← c.self.view_is) at c.requires.next in
    let new : Standing = record { arrived = c.pass.new.self; state = state_of c.self.inside.records.place; rows = c.self.inside.rows; tick = c.self.inside.tick; lines = c.self.inside.lines } in
    let faulty = plain-faulty g.row.B old c.args.row c.requires.small next new c.in-Err.kind (rw c.bytes.ensures at (sym c.in-Err.ensures)) next.starts c.pass.ensures.bytes in
    rw (← c.self.view_is) ((λ e. cc e, λ e. cc e, λ e. cc e), faulty.0, faulty.1)

pub returns-in-Ok-clause-waits : goal.returns-in-Ok-clause-waits
returns-in-Ok-clause-waits g c = (tt, tt)
