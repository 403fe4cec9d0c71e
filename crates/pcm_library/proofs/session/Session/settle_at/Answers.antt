use Rattle.std.proofs.Common.{refl, ◌∷◌, sym, ◌∙◌, arith, ◌+◌, ap}
use Rattle.std.proofs.lemmas.Bool.{false≢true}
use Rattle.trace_stream.specs.declared.asked.Asked.TheVariants.{Settle}
use Rattle.module_shape.specs.declared.raw.RawShape.{RawShape}
use Rattle.pcm_library.{specs.Serving.most_open, proofs.Beginning.own-serving}
use Rattle.ghost_list.specs.Items.{newest}
use Rattle.pcm_library.proofs.session.Session.settle_at.Goals as goal

pub serve_settle-requires : goal.serve_settle-requires
serve_settle-requires g c =
    let inside = c.self.inside in
    let going = rw (← c.self.view_is) at c.requires.going in
    let rises = rw (← c.self.view_is) at c.requires.rises in
    let off = sym c.self.invariant.going ∙ going in
    (omega arith, (omega arith, (c.self.invariant.layout, (rises, (c.requires.in_time, record { raw = inside.module.shape; seed = inside.module.seed; before = newest inside.asked; serving = c.self.invariant.serving off })))))

pub invariant_of-self : goal.invariant_of-self
invariant_of-self g c =
    let inside = c.self.inside in
    let going = rw (← c.self.view_is) at c.requires.going in
    let off = sym c.self.invariant.going ∙ going in
    let asked = newest inside.asked in
    let out = c.serve_settle.new.out in
    let array = g.A.CellArray.state c.serve_settle.new.array in
    let serves = c.serve_settle.ensures.serves.serving inside.module.shape inside.module.seed asked (c.self.invariant.serving off) in
    rw c.and.ensures.newest (record {
      layout = c.self.invariant.layout;
      going = c.serve_settle.ensures.going ∙ sym off;
      stands = refl;
      room = c.serve_settle.ensures.room ∙ c.self.invariant.room ∙ ap (λ (s : RawShape). most_open s + 1) (sym c.serve_settle.ensures.shape);
      serving = λ on. own-serving inside.module.shape inside.module.seed (Settle c.args.tick ∷ asked) c.serve_settle.new.pcm array out.rows out.told out.prints out.snapshots serves.0;
      ended = λ is. absurd (false≢true (sym off ∙ is));
    })

pub returns-clause-serves : goal.returns-clause-serves
returns-clause-serves g c = rw (← c.self.view_is) c.serve_settle.ensures.serves
