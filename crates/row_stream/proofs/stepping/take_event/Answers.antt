use Rattle.std.proofs.Common.{inl, refl, arith}
use Rattle.trace_reader.proofs.Sizes.{event_fits}
use Rattle.trace_stream.specs.declared.asked.Asked.TheVariants.{Happens}
use Rattle.row_stream.proofs.Steps.{takes-then, writes-behind, writes-stop}
use Rattle.row_stream.proofs.stepping.take_event.Goals as goal

pub returns-then-event-tick-clause-takes : goal.returns-then-event-tick-clause-takes
returns-then-event-tick-clause-takes g c =
    let late = c.stop_late.ensures in
    inl (record {
      rests = record { same = refl; array = refl; printer = record { rows = late.rows; told = late.told; snapshots = late.snapshots; prints = late.prints } };
      below = omega (arith, c.tick.ensures, c.if-event-tick.true);
      late = late.stops;
    })

pub returns-then-event-tick-clause-writes : goal.returns-then-event-tick-clause-writes
returns-then-event-tick-clause-writes g c =
    let late = c.stop_late.ensures in
    writes-stop g.K.Sink.written g.K.Sink.faults c.args.out.now c.stop_late.new.out c.stop_late.result late.prints late.printing late.written late.part

pub serve_event-requires : goal.serve_event-requires
serve_event-requires g c =
    let r = c.requires in (
      omega arith,
      (
        event_fits g.row.B r.layout.shape.1,
        (
          omega arith,
          (r.layout, (record { rises = omega (arith, c.tick.ensures, c.if-event-tick.false); in_time = r.event.in_time; op = r.event.op }, (r.few, r.serving))),
        ),
      ),
    )

pub returns-clause-takes : goal.returns-clause-takes
returns-clause-takes g c =
    takes-then c.args.stops c.args.pcm.now c.serve_event.new.pcm (g.A.CellArray.state c.args.array.now) (g.A.CellArray.state c.serve_event.new.array) c.args.out.now c.serve_event.new.out c.go_on.new.out (Happens c.args.event.now)
    c.behind_event.result c.go_on.result c.serve_event.ensures.serves c.go_on.ensures.told (λ earlier. c.behind_event.ensures) c.go_on.ensures.goes

pub returns-clause-writes : goal.returns-clause-writes
returns-clause-writes g c =
    writes-behind g.K.Sink.written g.K.Sink.faults c.args.out.now c.serve_event.new.out c.go_on.new.out c.go_on.result c.serve_event.ensures.serves.prints c.serve_event.ensures.printing c.go_on.ensures.writes
