use Rattle.std.proofs.Common.{◌≡◌, ◌∙◌, sym, subst}
use Rattle.row_stream.specs.{Asking.{behind_of, cut_if, off_behind}, Ending.{IsLeft, told_along, without_cut_if}, Serving.told_so_far, declared.stop.Behind.Behind}
use Rattle.row_stream.specs.declared.stop.Behind.TheVariants.{Nothing, Going, Off}
use Rattle.pcm_library.specs.Serving.{Serving}
use Rattle.pcm_library.proofs.session.Session.stop.Goals as goal

pub returns-in-Nothing-clause-ended : goal.returns-in-Nothing-clause-ended
returns-in-Nothing-clause-ended g c = λ done had.
    let s = c.args.self.now in
    let new = c.finish.new.self in
    let is : behind_of s.asked ≡ Nothing = subst (λ (v : Serving g.row.B g.row.M g.row.E g.row.A.Denot). behind_of v.asked ≡ Nothing) c.self.view_is (sym c.self.invariant.stands ∙ c.in-Nothing.is) in
    let P : Behind → Type 0 = λ b.
    (left : IsLeft s.module_.shape s.module_.seed (off_behind b) (cut_if b s.asked) new.module_ (g.A.CellArray.state new.array) new.kept.rows new.kept.told new.kept.prints new.kept.snapshots)
    × (without_cut_if b s.asked (told_along left.0) ≡ told_so_far had) in
    subst P (sym is) (c.finish.ensures.ended done had)

pub returns-in-Going-clause-ended : goal.returns-in-Going-clause-ended
returns-in-Going-clause-ended g c = λ done had.
    let s = c.args.self.now in
    let new = c.stop_by_cut.new.self in
    let is : behind_of s.asked ≡ Going = subst (λ (v : Serving g.row.B g.row.M g.row.E g.row.A.Denot). behind_of v.asked ≡ Going) c.self.view_is (sym c.self.invariant.stands ∙ c.in-Going.is) in
    let P : Behind → Type 0 = λ b.
    (left : IsLeft s.module_.shape s.module_.seed (off_behind b) (cut_if b s.asked) new.module_ (g.A.CellArray.state new.array) new.kept.rows new.kept.told new.kept.prints new.kept.snapshots)
    × (without_cut_if b s.asked (told_along left.0) ≡ told_so_far had) in
    subst P (sym is) (c.stop_by_cut.ensures.ended done s.module_.shape s.module_.seed had)

pub returns-in-Off-clause-ended : goal.returns-in-Off-clause-ended
returns-in-Off-clause-ended g c = λ done had.
    let s = c.args.self.now in
    let new = c.stay_off.new.self in
    let is : behind_of s.asked ≡ Off = subst (λ (v : Serving g.row.B g.row.M g.row.E g.row.A.Denot). behind_of v.asked ≡ Off) c.self.view_is (sym c.self.invariant.stands ∙ c.in-Off.is) in
    let P : Behind → Type 0 = λ b.
    (left : IsLeft s.module_.shape s.module_.seed (off_behind b) (cut_if b s.asked) new.module_ (g.A.CellArray.state new.array) new.kept.rows new.kept.told new.kept.prints new.kept.snapshots)
    × (without_cut_if b s.asked (told_along left.0) ≡ told_so_far had) in
    subst P (sym is) (c.stay_off.ensures.ended s.module_.shape s.module_.seed had)
