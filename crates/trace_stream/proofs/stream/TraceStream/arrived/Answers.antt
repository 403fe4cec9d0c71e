use Rattle.std.proofs.Common.{◌+◌, refl, sym}
use Rattle.trace_stream.{specs.Machine.state_of, specs.Stream.{IsPlainNext, Standing}, proofs.PlainNext.{plain-asks, plain-lawful}}
use Rattle.trace_stream.proofs.stream.TraceStream.arrived.Goals as goal

pub returns-clause-next : goal.returns-clause-next
returns-clause-next g c =
    let old : Standing = record { arrived = c.self.inside.records.incoming; state = state_of c.self.inside.records.place; rows = c.self.inside.rows; tick = c.self.inside.tick; lines = c.self.inside.lines } in
    let next : IsPlainNext old c.in-Some.row = rw (← c.self.view_is) at c.in-Some.ensures in
    let new : Standing = record { arrived = c.pass.new.self; state = state_of c.self.inside.records.place; rows = c.self.inside.rows + 1; tick = c.in-Ok.event.tick; lines = c.self.inside.lines } in
    rw (← c.self.view_is) (plain-asks g.row.B old c.in-Some.row c.requires next new c.in-Ok.event (rw c.bytes-bytes.ensures at (sym c.in-Ok.ensures)) next.starts c.pass.ensures.bytes refl refl refl)

pub returns-clause-lawful : goal.returns-clause-lawful
returns-clause-lawful g c =
    let old : Standing = record { arrived = c.self.inside.records.incoming; state = state_of c.self.inside.records.place; rows = c.self.inside.rows; tick = c.self.inside.tick; lines = c.self.inside.lines } in
    let next : IsPlainNext old c.in-Some.row = rw (← c.self.view_is) at c.in-Some.ensures in
    rw (← c.self.view_is) (plain-lawful g.row.B old c.in-Some.row c.requires next c.in-Ok.event c.self.invariant.0 (rw c.bytes-bytes.ensures at (sym c.in-Ok.ensures)))
