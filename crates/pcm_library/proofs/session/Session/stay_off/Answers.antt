use Rattle.std.proofs.Common.{◌≡◌, ℕ, ◌+◌, true, sym, ◌∙◌, ap, subst, arith}
use Rattle.std.proofs.lemmas.Bool.{false≢true}
use Rattle.row_stream.specs.{Ending.{IsLeft, told_along}, Serving.{IsServing, told_so_far}}
use Rattle.module_shape.specs.declared.raw.RawShape.{RawShape}
use Rattle.pcm_library.{specs.Serving.{Serving, most_open}, proofs.Beginning.own-ended}
use Rattle.ghost_list.specs.Items.{newest}
use Rattle.pcm_library.proofs.session.Session.stay_off.Goals as goal

pub stay_off-requires : goal.stay_off-requires
stay_off-requires g c =
    let inside = c.self.inside in
    let going = rw (← c.self.view_is) at c.requires.going in
    let cut = rw (← c.self.view_is) at c.requires.cut in
    let off = sym c.self.invariant.going ∙ going in
    (omega arith, (omega arith, (c.self.invariant.layout, (inside.module.shape, inside.module.seed, newest inside.asked, c.self.invariant.serving off, cut))))

pub invariant_of-self : goal.invariant_of-self
invariant_of-self g c =
    let inside = c.self.inside in
    let going = rw (← c.self.view_is) at c.requires.going in
    let cut = rw (← c.self.view_is) at c.requires.cut in
    let off = sym c.self.invariant.going ∙ going in
    let asked = newest inside.asked in
    let out = c.stay_off.new.out in
    let array = g.A.CellArray.state inside.array in
    let left = c.stay_off.ensures.ended inside.module.shape inside.module.seed asked (c.self.invariant.serving off) cut in
    record {
      layout = c.self.invariant.layout;
      going = c.stay_off.ensures.finished;
      stands = c.self.invariant.stands;
      room = c.stay_off.ensures.room ∙ c.self.invariant.room ∙ ap (λ (s : RawShape). most_open s + 1) (sym c.stay_off.ensures.shape);
      serving = λ on. absurd (false≢true (sym on));
      ended = λ is. own-ended inside.module.shape inside.module.seed true asked c.stay_off.new.pcm array out.rows out.told left.0.0;
    }

pub returns-clause-ended : goal.returns-clause-ended
returns-clause-ended g c =
    let inside = c.self.inside in
    let cut = rw (← c.self.view_is) at c.requires.cut in
    let out = c.stay_off.new.out in
    let P : Serving g.row.B g.row.M g.row.E g.row.A.Denot → Type 0 = λ s.
    (raw : RawShape) (seed : ℕ) (had : IsServing raw seed s.asked s.module_ (g.A.CellArray.state s.array) s.kept.rows s.kept.told s.kept.prints s.kept.snapshots)
    → (left : IsLeft raw seed true s.asked c.stay_off.new.pcm (g.A.CellArray.state inside.array) out.rows out.told out.prints out.snapshots) × (told_along left.0 ≡ told_so_far had) in
    subst P c.self.view_is (λ raw seed had. c.stay_off.ensures.ended raw seed (newest inside.asked) had cut)
