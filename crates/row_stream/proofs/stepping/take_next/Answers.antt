use Rattle.std.proofs.Common.{◌≡◌, ◌∙◌, [], ap, inl, refl, sym, subst, arith}
use Rattle.pcm_io.proofs.ByteLemmas.{Takes-nothing}
use Rattle.module_shape.specs.Limits.{total_of}
use Rattle.trace_reader.proofs.Sizes.{event_fits}
use Rattle.trace_stream.specs.{Stream.Standing, declared.asked.Asked.TheVariants.Happens}
use Rattle.row_stream.{specs.Stepping.{AsksBehind, Steps}, proofs.Rows.asked-ever}
use Rattle.row_stream.proofs.stepping.take_next.Goals as goal

-- an event that has come
pub take_event-requires : goal.take_event-requires
take_event-requires g c =
    let r = c.requires in
    let event = asked-ever c.args.stream.now.lines (total_of c.args.pcm.now.shape) c.args.stream.now.tick (Happens c.in-Some.event) r.lines c.in-Some.ensures.lawful in
    (omega arith, (event_fits g.row.B r.layout.shape.1, (omega arith, (r.layout, (event, (r.few, r.serving))))))

pub returns-in-Some-clause-steps : goal.returns-in-Some-clause-steps
returns-in-Some-clause-steps g c =
    let e = c.in-Some.ensures in
    let ended = c.arrived.ensures.ended in
    inl (
      Happens c.in-Some.event,
      record {
        bytes = [];
        takes = Takes-nothing _ _;
        stays = λ is. (refl, ended ∙ is);
        asks = e.next;
        lawful = e.lawful;
        waits = (tt, tt);
        row = e.row;
        lines = c.arrived.ensures.lines;
        at_end = λ end now. end (sym ended ∙ now);
        calm = refl;
      },
      c.take_event.ensures.takes,
    )

pub returns-in-Some-clause-waits : goal.returns-in-Some-clause-waits
returns-in-Some-clause-waits g c = inl refl

-- none has come, and nothing was read
pub take_given-requires : goal.take_given-requires
take_given-requires g c =
    let r = c.requires in
    let none : c.arrived.new.self ≡ c.args.stream.now = c.in_default.ensures.none in
    (omega arith, (omega arith, (r.layout, (ap (λ (s : Standing). s.lines) none ∙ r.lines, (ap (λ (s : Standing). s.rows) none ∙ r.rows, (r.few, r.serving))))))

pub returns-clause-steps : goal.returns-clause-steps
returns-clause-steps g c =
    subst (λ (s : Standing). Steps g.S.Source.left g.S.Source.taken g.S.Source.faults c.args.stops c.args.pcm.now c.take_given.new.pcm (g.A.CellArray.state c.args.array.now) (g.A.CellArray.state c.take_given.new.array)
    c.args.source.now c.take_given.new.source s c.take_given.new.stream c.args.out.now c.take_given.new.out c.args.behind c.take_given.result) c.in_default.ensures.none c.take_given.ensures.steps

pub returns-clause-waits : goal.returns-clause-waits
returns-clause-waits g c =
    subst (λ (s : Standing). AsksBehind g.S.Source.left g.S.Source.taken g.K.Sink.written g.K.Sink.faults c.args.source.now c.take_given.new.source s c.args.out.now) c.in_default.ensures.none c.take_given.ensures.waits
