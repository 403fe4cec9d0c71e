use Rattle.std.proofs.Common.{refl, ◌≡◌, ℕ, ◌∷◌, ap, sym, ◌∙◌, arith, ◌+◌}
use Rattle.std.proofs.lemmas.Bool.{false≢true}
use Rattle.trace_stream.specs.{declared.asked.Asked.Asked, declared.asked.Asked.TheVariants.UntilAny}
use Rattle.module_shape.specs.declared.raw.RawShape.{RawShape}
use Rattle.pcm_library.{specs.Serving.most_open, proofs.Beginning.own-serving}
use Rattle.ghost_list.specs.Items.{newest}
use Rattle.pcm_library.proofs.session.Session.wait_for_any.Goals as goal

pub serve_until_any-requires : goal.serve_until_any-requires
serve_until_any-requires g c =
    let inside = c.self.inside in
    let going = rw (← c.self.view_is) at c.requires.going in
    let rises = rw (← c.self.view_is) at c.requires.rises in
    let off = sym c.self.invariant.going ∙ going in
    (omega arith, (omega arith, (c.self.invariant.layout, (rises, (c.requires.in_time, record { raw = inside.module.shape; seed = inside.module.seed; before = newest inside.asked; serving = c.self.invariant.serving off })))))

pub invariant_of-self : goal.invariant_of-self
invariant_of-self g c =
    let inside = c.self.inside in
    let going = rw (← c.self.view_is) at c.requires.going in
    let off = sym c.self.invariant.going ∙ going in
    let asked = newest inside.asked in
    let out = c.serve_until_any.new.out in
    let array = g.A.CellArray.state c.serve_until_any.new.array in
    let serves = c.serve_until_any.ensures.serves.serving inside.module.shape inside.module.seed asked (c.self.invariant.serving off) in
    let At : ℕ → Asked g.row.B = λ tick. UntilAny (record { limit = c.args.limit; reached = tick }) in
    let is : newest c.and.result ≡ At c.serve_until_any.new.pcm.tick ∷ asked = c.and.ensures.newest ∙ ap (λ tick. At tick ∷ asked) c.tick-reached.ensures in
    rw is (record {
      layout = c.self.invariant.layout;
      going = c.serve_until_any.ensures.going ∙ sym off;
      stands = refl;
      room = c.serve_until_any.ensures.room ∙ c.self.invariant.room ∙ ap (λ (s : RawShape). most_open s + 1) (sym c.serve_until_any.ensures.shape);
      serving = λ on. own-serving inside.module.shape inside.module.seed (At c.serve_until_any.new.pcm.tick ∷ asked) c.serve_until_any.new.pcm array out.rows out.told out.prints out.snapshots serves.0;
      ended = λ is. absurd (false≢true (sym off ∙ is));
    })

pub returns-clause-asked : goal.returns-clause-asked
returns-clause-asked g c =
    let At : ℕ → Asked g.row.B = λ tick. UntilAny (record { limit = c.args.limit; reached = tick }) in
    rw (← c.self.view_is) (c.and.ensures.newest ∙ ap (λ tick. At tick ∷ newest c.self.inside.asked) c.tick-reached.ensures)

pub returns-clause-serves : goal.returns-clause-serves
returns-clause-serves g c = rw (← c.self.view_is) c.serve_until_any.ensures.serves
