use Rattle.std.proofs.Common.{◌≡◌, ◌∙◌, [], ℕ, zero, Err, ap, sym, subst, arith, refl}
use Rattle.module_shape.specs.Limits.{total_of}
use Rattle.trace_stream.specs.Stream.{Opens}
use Rattle.trace_stream.specs.declared.fault.StreamFault.TheVariants as fault
use Rattle.row_stream.specs.{Serving.{IsServing, told_so_far}, declared.stop.StreamStep.TheVariants.Stops, declared.stop.Stop.TheVariants.Output}
use Rattle.row_stream.proofs.{Refusals.{may-go-on, none-first, went-first}, Rows.{come-none, fed-come, fed-first, fed-same, next-few, open-stopped}}
use Rattle.row_stream.proofs.{Steps.{step-ends, step-goes, step-stops}, Telling.{tells-header, tells-more}}
use Rattle.row_stream.proofs.reading.serve_source.Goals as goal

pub returns-in_default-clause-stopped : goal.returns-in_default-clause-stopped
returns-in_default-clause-stopped g c = λ raw seed start.
    let had : IsServing raw seed [] c.args.pcm.now (g.A.CellArray.state c.args.array.now) c.flush.new.self.rows c.flush.new.self.told c.flush.new.self.prints c.flush.new.self.snapshots = rw (c.flush.ensures.rows, c.flush.ensures.told, c.flush.ensures.prints, c.flush.ensures.snapshots) start in
    ([], had, (come-none g.row.B (total_of raw) g.S.Source.left g.S.Source.taken g.S.Source.faults c.args.source.now c.args.source.now, refl), went-first c.args.stops (told_so_far had))

pub returns-in-Err-clause-stopped : goal.returns-in-Err-clause-stopped
returns-in-Err-clause-stopped g c = λ raw seed start.
    let lines : c.total.result ≡ total_of raw = c.total.ensures.number ∙ ap total_of c.shape.ensures.shape ∙ ap total_of start.served.shape in
    let had : IsServing raw seed [] c.args.pcm.now (g.A.CellArray.state c.args.array.now) c.flush.new.self.rows c.flush.new.self.told c.flush.new.self.prints c.flush.new.self.snapshots = rw (c.flush.ensures.rows, c.flush.ensures.told, c.flush.ensures.prints, c.flush.ensures.snapshots) start in
    let e = c.in-Err.ensures in (
      [],
      had,
      open-stopped g.row.B (total_of raw) g.S.Source.left g.S.Source.taken g.S.Source.faults c.args.source.now c.open.new.source c.in-Err.fault (rw lines at e.fault) (λ is. e.read (ap Err is)) (λ is. e.sparing (ap Err is)) (λ is. e.endless (ap Err is))
          (λ other. e.no_fault (λ is. let same : c.in-Err.fault ≡ fault.Read = cc in other same)),
      may-go-on had c.args.stops (λ is. none-first had),
    )

pub rows-init : goal.rows-init
rows-init g c = record {
  came =
      λ raw seed start.
      let opened = c.in-Ok-open.ensures.ok in
      let begun = c.in-Ok-open.ensures.begun in
      let lines : c.total.result ≡ total_of raw = c.total.ensures.number ∙ ap total_of c.shape.ensures.shape ∙ ap total_of start.served.shape in
      fed-first raw seed g.S.Source.left g.S.Source.taken g.S.Source.faults c.args.source.now c.args.pcm.now (g.A.CellArray.state c.args.array.now) c.flush.new.self.rows c.flush.new.self.told c.flush.new.self.prints c.flush.new.self.snapshots c.open.new.source c.in-Ok-open.stream
      (rw (c.flush.ensures.rows, c.flush.ensures.told, c.flush.ensures.prints, c.flush.ensures.snapshots) start) opened.0 opened.1 (subst (λ (k : ℕ). Opens k opened.0 c.in-Ok-open.stream) lines opened.2) begun.0 begun.1 (begun.2 ∙ lines)
      (c.in-Ok-open.ensures.no_fault (λ is. cc is));
  «end» = c.in-Ok-open.ensures.end;
  prints = c.flush.ensures.prints;
  printing = λ before first h. c.flush.ensures.printing before first h;
  none = λ is. rw (c.flush.ensures.rows, c.flush.ensures.told) (none-first c.requires.begins.2);
  wear = refl;
  waits = λ raw seed start before first h.
      tells-header g.row.B g.row.M g.row.E raw seed g.S.Source.left g.S.Source.taken g.S.Source.faults c.args.source.now g.K.Sink.written g.K.Sink.faults before first c.args.pcm.now (g.A.CellArray.state c.args.array.now)
      c.args.out.now.rows c.args.out.now.told c.args.out.now.prints c.args.out.now.snapshots c.open.new.source c.flush.new.self.sink c.open.ensures.asks start
      (rw (← c.flush.ensures.prints, ← c.flush.ensures.told, ← c.flush.ensures.snapshots) (c.in-Ok.ensures.ok before first h));
  calm = c.in-Ok-open.ensures.no_fault (λ is. cc is);
}

-- it was asked behind what was written
pub returns-in_default-clause-waits : goal.returns-in_default-clause-waits
returns-in_default-clause-waits g c = λ raw seed start before first h. (zero, refl)

pub returns-in-Err-clause-waits : goal.returns-in-Err-clause-waits
returns-in-Err-clause-waits g c = λ raw seed start before first h.
    tells-header g.row.B g.row.M g.row.E raw seed g.S.Source.left g.S.Source.taken g.S.Source.faults c.args.source.now g.K.Sink.written g.K.Sink.faults before first c.args.pcm.now (g.A.CellArray.state c.args.array.now)
    c.args.out.now.rows c.args.out.now.told c.args.out.now.prints c.args.out.now.snapshots c.open.new.source c.flush.new.self.sink c.open.ensures.asks start
    (rw (← c.flush.ensures.prints, ← c.flush.ensures.told, ← c.flush.ensures.snapshots) (c.in-Ok.ensures.ok before first h))

pub returns-in-Ends-clause-waits : goal.returns-in-Ends-clause-waits
returns-in-Ends-clause-waits g c = λ raw seed start before first h.
    tells-more g.row.B g.row.M g.row.E raw seed g.S.Source.left g.S.Source.taken g.S.Source.faults c.args.source.now g.K.Sink.written g.K.Sink.faults before first c.rows.pcm (g.A.CellArray.state c.rows.array) c.rows.out
    c.rows.source c.rows.stream c.rows.behind c.rows.counter (c.rows.invariant.came raw seed start) c.args.out.now.prints c.rows.invariant.prints c.take_next.new.source
    (c.rows.invariant.printing before first h) c.take_next.ensures.waits (c.rows.invariant.waits raw seed start before first h)

pub returns-in-Stops-clause-waits : goal.returns-in-Stops-clause-waits
returns-in-Stops-clause-waits g c = λ raw seed start before first h.
    tells-more g.row.B g.row.M g.row.E raw seed g.S.Source.left g.S.Source.taken g.S.Source.faults c.args.source.now g.K.Sink.written g.K.Sink.faults before first c.rows.pcm (g.A.CellArray.state c.rows.array) c.rows.out
    c.rows.source c.rows.stream c.rows.behind c.rows.counter (c.rows.invariant.came raw seed start) c.args.out.now.prints c.rows.invariant.prints c.take_next.new.source
    (c.rows.invariant.printing before first h) c.take_next.ensures.waits (c.rows.invariant.waits raw seed start before first h)

pub returns-clause-waits : goal.returns-clause-waits
returns-clause-waits g c = c.rows.invariant.waits

pub returns-in_default-flush-clause-waits : goal.returns-in_default-flush-clause-waits
returns-in_default-flush-clause-waits g c = c.rows.invariant.waits

pub take_next-requires : goal.take_next-requires
take_next-requires g c =
    let s = c.requires.begins in
    let had = c.rows.invariant.came s.0 s.1 s.2 in
    let out = c.rows.out in
    let few = next-few s.0 s.1 g.S.Source.left g.S.Source.taken g.S.Source.faults c.args.source.now c.rows.pcm (g.A.CellArray.state c.rows.array) out.rows out.told out.prints out.snapshots c.rows.source c.rows.stream c.rows.behind c.rows.counter had in
    (omega arith, (omega arith, (c.requires.layout, (had.lines ∙ ap total_of (sym had.serving.served.shape), (had.rows ∙ sym had.serving.counted, (few, record { raw = s.0; seed = s.1; before = had.asked; serving = had.serving }))))))

-- a row more was served
pub rows-preserved : goal.rows-preserved
rows-preserved g c =
    let s = c.requires.begins in
    let raw = s.0 in
    let seed = s.1 in
    let goes = step-goes raw seed g.S.Source.left g.S.Source.taken g.S.Source.faults c.args.source.now c.rows.source c.take_next.new.source c.rows.pcm c.take_next.new.pcm (g.A.CellArray.state c.rows.array) (g.A.CellArray.state c.take_next.new.array)
    c.rows.stream c.take_next.new.stream c.rows.out c.take_next.new.out c.rows.behind c.rows.counter (c.rows.invariant.came raw seed s.2) c.rows.invariant.none c.rows.invariant.end
    c.in-Goes.stands c.in-Goes.ensures.steps in
    record {
      came =
          λ raw seed start.
          (step-goes raw seed g.S.Source.left g.S.Source.taken g.S.Source.faults c.args.source.now c.rows.source c.take_next.new.source c.rows.pcm c.take_next.new.pcm (g.A.CellArray.state c.rows.array) (g.A.CellArray.state c.take_next.new.array)
          c.rows.stream c.take_next.new.stream c.rows.out c.take_next.new.out c.rows.behind c.rows.counter (c.rows.invariant.came raw seed start) c.rows.invariant.none c.rows.invariant.end
          c.in-Goes.stands c.in-Goes.ensures.steps).0;
      «end» = goes.2;
      prints = c.take_next.ensures.writes.prints ∙ c.rows.invariant.prints;
      printing = λ before first h. c.take_next.ensures.writes.printing before first (c.rows.invariant.printing before first h);
      none = goes.1;
      wear = c.take_next.ensures.wear ∙ c.rows.invariant.wear;
      waits = λ raw seed start before first h.
          tells-more g.row.B g.row.M g.row.E raw seed g.S.Source.left g.S.Source.taken g.S.Source.faults c.args.source.now g.K.Sink.written g.K.Sink.faults before first c.rows.pcm (g.A.CellArray.state c.rows.array) c.rows.out
          c.rows.source c.rows.stream c.rows.behind c.rows.counter (c.rows.invariant.came raw seed start) c.args.out.now.prints c.rows.invariant.prints c.take_next.new.source
          (c.rows.invariant.printing before first h) c.take_next.ensures.waits (c.rows.invariant.waits raw seed start before first h);
      calm = goes.0.calm;
    }

-- the stream ends
pub returns-in-Ends-clause-served : goal.returns-in-Ends-clause-served
returns-in-Ends-clause-served g c = λ raw seed start.
    (step-ends raw seed g.S.Source.left g.S.Source.taken g.S.Source.faults c.args.source.now c.rows.source c.take_next.new.source c.rows.pcm c.take_next.new.pcm (g.A.CellArray.state c.rows.array) (g.A.CellArray.state c.take_next.new.array)
    c.rows.stream c.take_next.new.stream c.rows.out c.take_next.new.out c.rows.behind c.rows.counter (c.rows.invariant.came raw seed start) c.rows.invariant.none c.rows.invariant.end
    c.in-Ends.last c.in-Ends.ensures.steps).1

pub returns-in-Ends-clause-few : goal.returns-in-Ends-clause-few
returns-in-Ends-clause-few g c =
    let s = c.requires.begins in
    let raw = s.0 in
    let seed = s.1 in
    (step-ends raw seed g.S.Source.left g.S.Source.taken g.S.Source.faults c.args.source.now c.rows.source c.take_next.new.source c.rows.pcm c.take_next.new.pcm (g.A.CellArray.state c.rows.array) (g.A.CellArray.state c.take_next.new.array)
    c.rows.stream c.take_next.new.stream c.rows.out c.take_next.new.out c.rows.behind c.rows.counter (c.rows.invariant.came raw seed s.2) c.rows.invariant.none c.rows.invariant.end
    c.in-Ends.last c.in-Ends.ensures.steps).0

pub returns-in-Ends-clause-printing : goal.returns-in-Ends-clause-printing
returns-in-Ends-clause-printing g c = λ before first h. c.take_next.ensures.writes.printing before first (c.rows.invariant.printing before first h)

pub returns-in-Ends-clause-written : goal.returns-in-Ends-clause-written
returns-in-Ends-clause-written g c = λ is before first h. c.in-Ends.ensures.writes.whole ((λ e. cc e), (λ b e. cc e)) before first (c.rows.invariant.printing before first h)

-- it stops
pub returns-in-Stops-clause-stopped : goal.returns-in-Stops-clause-stopped
returns-in-Stops-clause-stopped g c = λ raw seed start.
    (step-stops raw seed g.S.Source.left g.S.Source.taken g.S.Source.faults c.args.source.now c.rows.source c.take_next.new.source c.rows.pcm c.take_next.new.pcm (g.A.CellArray.state c.rows.array) (g.A.CellArray.state c.take_next.new.array)
    c.rows.stream c.take_next.new.stream c.rows.out c.take_next.new.out c.rows.behind c.rows.counter (c.rows.invariant.came raw seed start) c.rows.invariant.none c.rows.invariant.end
    c.in-Stops.stop c.in-Stops.ensures.steps).1

pub returns-in-Stops-clause-few : goal.returns-in-Stops-clause-few
returns-in-Stops-clause-few g c =
    let s = c.requires.begins in
    let raw = s.0 in
    let seed = s.1 in
    (step-stops raw seed g.S.Source.left g.S.Source.taken g.S.Source.faults c.args.source.now c.rows.source c.take_next.new.source c.rows.pcm c.take_next.new.pcm (g.A.CellArray.state c.rows.array) (g.A.CellArray.state c.take_next.new.array)
    c.rows.stream c.take_next.new.stream c.rows.out c.take_next.new.out c.rows.behind c.rows.counter (c.rows.invariant.came raw seed s.2) c.rows.invariant.none c.rows.invariant.end
    c.in-Stops.stop c.in-Stops.ensures.steps).0

pub returns-in-Stops-clause-printing : goal.returns-in-Stops-clause-printing
returns-in-Stops-clause-printing g c = λ before first h. c.take_next.ensures.writes.printing before first (c.rows.invariant.printing before first h)

pub returns-in-Stops-clause-written : goal.returns-in-Stops-clause-written
returns-in-Stops-clause-written g c = λ other before first h.
    c.in-Stops.ensures.writes.whole ((λ is. other (let same : c.in-Stops.stop ≡ Output = cc is in ap Err same)), (λ b e. cc e)) before first (c.rows.invariant.printing before first h)

pub returns-in-Stops-clause-part : goal.returns-in-Stops-clause-part
returns-in-Stops-clause-part g c = λ is before first h.
    c.in-Stops.ensures.writes.part (let same : c.in-Stops.stop ≡ Output = cc is in ap Stops same) before first (c.rows.invariant.printing before first h)

-- rows came that can't be counted
pub returns-clause-few : goal.returns-clause-few
returns-clause-few g c =
    let s = c.requires.begins in
    let raw = s.0 in
    let seed = s.1 in
    let was = c.rows.invariant.came s.0 s.1 s.2 in
    let now = c.flush-2.new.self in
    let last = fed-same raw seed g.S.Source.left g.S.Source.taken g.S.Source.faults c.args.source.now c.rows.pcm (g.A.CellArray.state c.rows.array) c.rows.out.rows c.rows.out.told c.rows.out.prints c.rows.out.snapshots c.rows.source c.rows.stream c.rows.behind c.rows.counter was now.rows now.told now.prints now.snapshots c.flush-2.ensures.rows c.flush-2.ensures.told c.flush-2.ensures.prints c.flush-2.ensures.snapshots in
    next-few raw seed g.S.Source.left g.S.Source.taken g.S.Source.faults c.args.source.now c.rows.pcm (g.A.CellArray.state c.rows.array) now.rows now.told now.prints now.snapshots c.rows.source c.rows.stream c.rows.behind c.rows.counter last

pub returns-clause-stopped : goal.returns-clause-stopped
returns-clause-stopped g c = λ raw seed start.
    let was = c.rows.invariant.came raw seed start in
    let now = c.flush-2.new.self in
    let last = fed-same raw seed g.S.Source.left g.S.Source.taken g.S.Source.faults c.args.source.now c.rows.pcm (g.A.CellArray.state c.rows.array) c.rows.out.rows c.rows.out.told c.rows.out.prints c.rows.out.snapshots c.rows.source c.rows.stream c.rows.behind c.rows.counter was now.rows now.told now.prints now.snapshots c.flush-2.ensures.rows c.flush-2.ensures.told c.flush-2.ensures.prints c.flush-2.ensures.snapshots in
    (last.asked, last.serving, (fed-come raw seed g.S.Source.left g.S.Source.taken g.S.Source.faults c.args.source.now c.rows.pcm (g.A.CellArray.state c.rows.array) now.rows now.told now.prints now.snapshots c.rows.source c.rows.stream c.rows.behind c.rows.counter last c.rows.source c.rows.invariant.end, c.rows.invariant.calm, omega (arith, last.counted, c.rows-test.false, c.rows.auto.counter-end)), may-go-on last.serving c.args.stops (λ is. rw (c.flush-2.ensures.rows, c.flush-2.ensures.told) (c.rows.invariant.none is)))

pub returns-clause-printing : goal.returns-clause-printing
returns-clause-printing g c = λ before first h. c.flush-2.ensures.printing before first (c.rows.invariant.printing before first h)

pub returns-clause-written : goal.returns-clause-written
returns-clause-written g c = λ is before first h. c.in-Ok-flush.ensures.ok before first (c.rows.invariant.printing before first h)

pub returns-in_default-flush-clause-few : goal.returns-in_default-flush-clause-few
returns-in_default-flush-clause-few g c =
    let s = c.requires.begins in
    let raw = s.0 in
    let seed = s.1 in
    let was = c.rows.invariant.came s.0 s.1 s.2 in
    let now = c.flush-2.new.self in
    let last = fed-same raw seed g.S.Source.left g.S.Source.taken g.S.Source.faults c.args.source.now c.rows.pcm (g.A.CellArray.state c.rows.array) c.rows.out.rows c.rows.out.told c.rows.out.prints c.rows.out.snapshots c.rows.source c.rows.stream c.rows.behind c.rows.counter was now.rows now.told now.prints now.snapshots c.flush-2.ensures.rows c.flush-2.ensures.told c.flush-2.ensures.prints c.flush-2.ensures.snapshots in
    next-few raw seed g.S.Source.left g.S.Source.taken g.S.Source.faults c.args.source.now c.rows.pcm (g.A.CellArray.state c.rows.array) now.rows now.told now.prints now.snapshots c.rows.source c.rows.stream c.rows.behind c.rows.counter last

pub returns-in_default-flush-clause-stopped : goal.returns-in_default-flush-clause-stopped
returns-in_default-flush-clause-stopped g c = λ raw seed start.
    let was = c.rows.invariant.came raw seed start in
    let now = c.flush-2.new.self in
    let last = fed-same raw seed g.S.Source.left g.S.Source.taken g.S.Source.faults c.args.source.now c.rows.pcm (g.A.CellArray.state c.rows.array) c.rows.out.rows c.rows.out.told c.rows.out.prints c.rows.out.snapshots c.rows.source c.rows.stream c.rows.behind c.rows.counter was now.rows now.told now.prints now.snapshots c.flush-2.ensures.rows c.flush-2.ensures.told c.flush-2.ensures.prints c.flush-2.ensures.snapshots in
    (last.asked, last.serving, (fed-come raw seed g.S.Source.left g.S.Source.taken g.S.Source.faults c.args.source.now c.rows.pcm (g.A.CellArray.state c.rows.array) now.rows now.told now.prints now.snapshots c.rows.source c.rows.stream c.rows.behind c.rows.counter last c.rows.source c.rows.invariant.end, c.rows.invariant.calm), last.went)

pub returns-in_default-flush-clause-printing : goal.returns-in_default-flush-clause-printing
returns-in_default-flush-clause-printing g c = λ before first h. c.flush-2.ensures.printing before first (c.rows.invariant.printing before first h)

pub returns-in_default-flush-clause-part : goal.returns-in_default-flush-clause-part
returns-in_default-flush-clause-part g c = λ is before first h. c.in_default-flush.ensures.err before first (c.rows.invariant.printing before first h)
