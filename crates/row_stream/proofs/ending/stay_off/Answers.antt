use Rattle.std.proofs.Common.{◌≡◌, ◌∙◌, ap, arith, refl, sym, subst}
use Rattle.row_stream.specs.{Asking.{cut_at_end, cut_behind, cut_if, off_behind}, Ending.{IsLeft, told_along, without_cut_if}, Serving.{Telling, told_before, told_so_far}}
use Rattle.row_stream.specs.declared.stop.Behind.{Behind}
use Rattle.row_stream.proofs.ending.stay_off.Goals as goal

pub stop-requires : goal.stop-requires
stop-requires g c =
    let s = c.requires.serving in
    (omega arith, (omega arith, (c.requires.layout, (s.0, s.1, cut_behind s.2, (c.serve_cut.ensures.serves.serving s.0 s.1 s.2 s.3).0, refl))))

pub stop-requires-in-Off : goal.stop-requires-in-Off
stop-requires-in-Off g c =
    let s = c.requires.serving in
    (omega arith, (omega arith, (c.requires.layout, (s.0, s.1, s.2, s.3, sym s.4 ∙ c.in-Off.is))))

pub returns-in-Nothing-clause-ended : goal.returns-in-Nothing-clause-ended
returns-in-Nothing-clause-ended g c = λ raw seed asked had is.
    let P : Behind → Type 0 = λ b.
    (left : IsLeft raw seed (off_behind b) (cut_if b asked) c.drain.new.pcm (g.A.CellArray.state c.drain.new.array) c.drain.new.out.rows c.drain.new.out.told c.drain.new.out.prints c.drain.new.out.snapshots)
    × (without_cut_if b asked (told_along left.0) ≡ told_so_far had) in
    subst P (sym c.in-Nothing.is ∙ is) (c.drain.ensures.ended raw seed asked had)

pub returns-in-Going-clause-ended : goal.returns-in-Going-clause-ended
returns-in-Going-clause-ended g c = λ raw seed asked had is.
    let P : Behind → Type 0 = λ b.
    (left : IsLeft raw seed (off_behind b) (cut_if b asked) c.stop.new.pcm (g.A.CellArray.state c.serve_cut.new.array) c.stop.new.out.rows c.stop.new.out.told c.stop.new.out.prints c.stop.new.out.snapshots)
    × (without_cut_if b asked (told_along left.0) ≡ told_so_far had) in
    let cut = c.serve_cut.ensures.serves.serving raw seed asked had in
    let left = c.stop.ensures.ended raw seed (cut_behind asked) cut.0 refl in
    subst P (sym c.in-Going.is ∙ is) (left.0, ap (λ (t : Telling g.row.B g.row.M g.row.E raw seed (cut_behind asked)). told_before (cut_at_end asked) asked t) left.1 ∙ cut.1)

pub returns-in-Going-clause-printing : goal.returns-in-Going-clause-printing
returns-in-Going-clause-printing g c = λ before first h. c.stop.ensures.printing before first (c.serve_cut.ensures.printing before first h)

pub returns-in-Off-clause-ended : goal.returns-in-Off-clause-ended
returns-in-Off-clause-ended g c = λ raw seed asked had is.
    let P : Behind → Type 0 = λ b.
    (left : IsLeft raw seed (off_behind b) (cut_if b asked) c.stop-in-Off.new.pcm (g.A.CellArray.state c.args.array.now) c.stop-in-Off.new.out.rows c.stop-in-Off.new.out.told c.stop-in-Off.new.out.prints c.stop-in-Off.new.out.snapshots)
    × (without_cut_if b asked (told_along left.0) ≡ told_so_far had) in
    subst P (sym c.in-Off.is ∙ is) (c.stop-in-Off.ensures.ended raw seed asked had (sym is ∙ c.in-Off.is))
