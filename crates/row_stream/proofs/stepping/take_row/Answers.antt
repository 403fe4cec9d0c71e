use Rattle.std.proofs.Common.{inl, refl, arith}
use Rattle.module_shape.specs.Limits.{total_of}
use Rattle.row_stream.proofs.{Rows.{asked_fits, later-asked}, Steps.{takes-then, writes-behind, writes-stop}}
use Rattle.row_stream.proofs.stepping.take_row.Goals as goal

pub returns-then-named-tick-clause-takes : goal.returns-then-named-tick-clause-takes
returns-then-named-tick-clause-takes g c =
    let late = c.stop_late.ensures in
    inl (record {
      rests = record { same = refl; array = refl; printer = record { rows = late.rows; told = late.told; snapshots = late.snapshots; prints = late.prints } };
      below = omega (arith, c.named.ensures, c.tick.ensures, c.if-named-tick.true);
      late = late.stops;
    })

pub returns-then-named-tick-clause-writes : goal.returns-then-named-tick-clause-writes
returns-then-named-tick-clause-writes g c =
    let late = c.stop_late.ensures in
    writes-stop g.K.Sink.written g.K.Sink.faults c.args.out.now c.stop_late.new.out c.stop_late.result late.prints late.printing late.written late.part

pub serve-requires : goal.serve-requires
serve-requires g c =
    let r = c.requires in
    let asked = later-asked (total_of c.args.pcm.now.shape) 0 c.args.pcm.now.tick c.args.asked.now r.asked (omega (arith, c.named.ensures, c.tick.ensures, c.if-named-tick.false)) in
    (omega arith, (asked_fits g.row.B r.layout.shape.1, (omega arith, (r.layout, (asked, (r.named, (r.few, r.serving)))))))

pub returns-clause-takes : goal.returns-clause-takes
returns-clause-takes g c =
    takes-then c.args.stops c.args.pcm.now c.serve.new.pcm (g.A.CellArray.state c.args.array.now) (g.A.CellArray.state c.serve.new.array) c.args.out.now c.serve.new.out c.go_on.new.out c.args.asked.now
    c.behind_asked.result c.go_on.result c.serve.ensures.serves c.go_on.ensures.told c.behind_asked.ensures c.go_on.ensures.goes

pub returns-clause-writes : goal.returns-clause-writes
returns-clause-writes g c =
    writes-behind g.K.Sink.written g.K.Sink.faults c.args.out.now c.serve.new.out c.go_on.new.out c.go_on.result c.serve.ensures.serves.prints c.serve.ensures.printing c.go_on.ensures.writes
