use Rattle.std.proofs.Common.{◌≢◌, ◌∷◌, [], ◌<◌, ◌+◌, length, sym, ◌∙◌, ap, subst, arith}
use Rattle.std.proofs.lemmas.Bool.{false≢true}
use Rattle.trace_reader.proofs.Sizes.{event_fits}
use Rattle.module_shape.specs.declared.raw.RawShape.{RawShape}
use Rattle.trace_stream.specs.declared.asked.Asked.TheVariants.{Happens}
use Rattle.pcm_library.specs.{Answers.{Answers, refusal_behind}, Serving.{Serving, most_open}, declared.session.Answer.TheVariants.NoMemory}
use Rattle.ghost_list.specs.Items.{newest}
use Rattle.pcm_library.proofs.{Answering.lacks-memory, Beginning.own-serving, Few.few-open}
use Rattle.pcm_library.proofs.session.Session.take.Goals as goal

pub serve_event-requires : goal.serve_event-requires
serve_event-requires g c =
    let inside = c.self.inside in
    let going = rw (← c.self.view_is) at c.requires.going in
    let lawful = rw (← c.self.view_is) at c.requires.lawful in
    let off = sym c.self.invariant.going ∙ going in
    let few : inside.kept.rows < 4294967295 = omega (arith, c.if-rows-ge-LAST_ROW.false, c.rows.ensures) in (
      omega arith,
      (
        event_fits g.row.B c.self.invariant.layout.shape.1,
        (omega arith, (c.self.invariant.layout, (lawful, (few, record { raw = inside.module.shape; seed = inside.module.seed; before = newest inside.asked; serving = c.self.invariant.serving off })))),
      ),
    )

pub invariant_of-self : goal.invariant_of-self
invariant_of-self g c =
    let inside = c.self.inside in
    let going = rw (← c.self.view_is) at c.requires.going in
    let off = sym c.self.invariant.going ∙ going in
    let asked = newest inside.asked in
    let out = c.serve_event.new.out in
    let array = g.A.CellArray.state c.serve_event.new.array in
    let serves = c.in-Ok.ensures.serves.serving inside.module.shape inside.module.seed asked (c.self.invariant.serving off) in
    rw c.and.ensures.newest (record {
      layout = c.self.invariant.layout;
      going = c.in-Ok.ensures.going ∙ c.self.invariant.going;
      stands = c.behind_asked-self-inside.ensures asked;
      room = c.in-Ok.ensures.room ∙ c.self.invariant.room ∙ ap (λ (s : RawShape). most_open s + 1) (sym c.in-Ok.ensures.shape);
      serving = λ on. own-serving inside.module.shape inside.module.seed (Happens c.args.event.now ∷ asked) c.serve_event.new.pcm array out.rows out.told out.prints out.snapshots serves.0;
      ended = λ is. absurd (false≢true (sym off ∙ is));
    })

pub invariant_of-self-in-Err : goal.invariant_of-self-in-Err
invariant_of-self-in-Err g c = let e = c.in-Err.ensures.rest in rw (e.0, e.1, e.2) c.self.invariant

pub returns-in-Ok-clause-serves : goal.returns-in-Ok-clause-serves
returns-in-Ok-clause-serves g c = rw (← c.self.view_is) (λ done. c.in-Ok.ensures.serves)

pub returns-in-Err-clause-answer : goal.returns-in-Err-clause-answer
returns-in-Err-clause-answer g c =
    let inside = c.self.inside in
    let going = rw (← c.self.view_is) at c.requires.going in
    let off = sym c.self.invariant.going ∙ going in
    let kept = inside.kept in
    let few = few-open inside.module.shape inside.module.seed (newest inside.asked) inside.module (g.A.CellArray.state inside.array) kept.rows kept.told kept.prints kept.snapshots
    c.shape.ensures.in_range c.tells_once.ensures.once (c.self.invariant.serving off) in
    let below : kept.rows < 4294967294 = omega (arith, c.if-rows-ge-LAST_ROW.false, c.rows.ensures) in
    let waits : kept.sink.waiting ≢ [] = λ none.
    let size = ap length none in
    absurd (omega (arith, size, few, c.in-Err.ensures.full, c.self.invariant.room)) in
    let s : Serving g.row.B g.row.M g.row.E g.row.A.Denot = record { module_ = inside.module; array = inside.array; kept = kept; asked = newest inside.asked; off = inside.off } in
    let P : Serving g.row.B g.row.M g.row.E g.row.A.Denot → Type 0 = λ s. Answers s (refusal_behind s.kept.rows) NoMemory in
    subst P c.self.view_is (lacks-memory s kept.rows below waits)
