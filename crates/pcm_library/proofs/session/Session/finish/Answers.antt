use Rattle.std.proofs.Common.{◌≡◌, false, sym, subst, arith, ◌+◌, ◌∙◌, ap}
use Rattle.std.proofs.lemmas.Bool.{false≢true}
use Rattle.row_stream.specs.{Ending.{IsLeft, told_along}, Serving.told_so_far}
use Rattle.module_shape.specs.declared.raw.RawShape.{RawShape}
use Rattle.pcm_library.{specs.Serving.{HasServedRows, Serving, most_open}, proofs.Beginning.own-ended}
use Rattle.ghost_list.specs.Items.{newest}
use Rattle.pcm_library.proofs.session.Session.finish.Goals as goal

pub drain-requires : goal.drain-requires
drain-requires g c =
    let inside = c.self.inside in
    (omega arith, (omega arith, (c.self.invariant.layout, record { raw = inside.module.shape; seed = inside.module.seed; before = newest inside.asked; serving = c.self.invariant.serving c.if-self.false })))

pub invariant_of-self : goal.invariant_of-self
invariant_of-self g c =
    let inside = c.self.inside in
    let asked = newest inside.asked in
    let out = c.drain.new.out in
    let array = g.A.CellArray.state c.drain.new.array in
    let left = c.drain.ensures.ended inside.module.shape inside.module.seed asked (c.self.invariant.serving c.if-self.false) in
    record {
      layout = c.self.invariant.layout;
      going = c.drain.ensures.finished;
      stands = c.self.invariant.stands;
      room = c.drain.ensures.room ∙ c.self.invariant.room ∙ ap (λ (s : RawShape). most_open s + 1) (sym c.drain.ensures.shape);
      serving = λ on. absurd (false≢true (sym on));
      ended = λ is. own-ended inside.module.shape inside.module.seed false asked c.drain.new.pcm array out.rows out.told left.0.0;
    }

pub returns-clause-ended : goal.returns-clause-ended
returns-clause-ended g c =
    let inside = c.self.inside in
    let out = c.drain.new.out in
    let array = g.A.CellArray.state c.drain.new.array in
    let P : Serving g.row.B g.row.M g.row.E g.row.A.Denot → Type 0 = λ s.
    (had : HasServedRows s.module_ (g.A.CellArray.state s.array) s.kept s.asked)
    → (left : IsLeft s.module_.shape s.module_.seed false s.asked c.drain.new.pcm array out.rows out.told out.prints out.snapshots) × (told_along left.0 ≡ told_so_far had) in
    λ done. subst P c.self.view_is (λ had. c.drain.ensures.ended inside.module.shape inside.module.seed (newest inside.asked) had)
