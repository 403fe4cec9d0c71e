use Rattle.std.proofs.Common.{rules, ◌≡◌, ◌∷◌, ◌∙◌, ℕ, List, true, ap, subst}
use Rattle.trace_reader.specs.declared.event.EventOp.TheVariants.{Cut}
use Rattle.trace_stream.specs.{declared.asked.Asked.Asked, declared.asked.Asked.TheVariants.Happens}
use Rattle.row_stream.specs.{Asking.behind_of, Ending.{IsLeft, told_along}, Serving.{IsServing, Telling, told_before, told_so_far}}
use Rattle.pcm_library.specs.Serving.{Serving}
use Rattle.pcm_library.proofs.session.Session.stop_by_cut.Goals as goal

pub stay_off-requires : goal.stay_off-requires
stay_off-requires g c = (search rules, (c.take.ensures.going ∙ c.requires.going, ap behind_of (c.take.ensures.asked c.in-Done.is)))

pub returns-in-Done-clause-ended : goal.returns-in-Done-clause-ended
returns-in-Done-clause-ended g c = λ done raw seed had.
    let s = c.args.self.now in
    let mid = c.take.new.self in
    let new = c.stay_off.new.self in
    let At : ℕ → Asked g.row.B = λ tick. Happens (record { tick = tick; op = Cut }) in
    let tick = c.tick.result in
    let has = (c.take.ensures.serves c.in-Done.is).serving raw seed s.asked had in
    let Q : List (Asked g.row.B) → Type 0 = λ asked.
    (had : IsServing raw seed asked mid.module_ (g.A.CellArray.state mid.array) mid.kept.rows mid.kept.told mid.kept.prints mid.kept.snapshots)
    → (left : IsLeft raw seed true asked new.module_ (g.A.CellArray.state new.array) new.kept.rows new.kept.told new.kept.prints new.kept.snapshots) × (told_along left.0 ≡ told_so_far had) in
    let behind : Q (At tick ∷ s.asked) = subst Q (c.take.ensures.asked c.in-Done.is) (c.stay_off.ensures.ended raw seed) in
    let left = behind has.0 in
    let R : ℕ → Type 0 = λ tick.
    (left : IsLeft raw seed true (At tick ∷ s.asked) new.module_ (g.A.CellArray.state new.array) new.kept.rows new.kept.told new.kept.prints new.kept.snapshots)
    × (told_before (At tick) s.asked (told_along left.0) ≡ told_so_far had) in
    subst R (c.tick.ensures ∙ ap (λ (v : Serving g.row.B g.row.M g.row.E g.row.A.Denot). v.module_.tick) c.self.view_is ∙ had.tick)
    (left.0, ap (λ (t : Telling g.row.B g.row.M g.row.E raw seed (At tick ∷ s.asked)). told_before (At tick) s.asked t) left.1 ∙ has.1)
