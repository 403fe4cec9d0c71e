use Rattle.std.proofs.Common.{◌≡◌, Bool, sym, subst}
use Rattle.row_stream.specs.{Asking.{stays_off, with_cut}, Ending.{IsLeft, told_along, without_cut}, Serving.told_so_far}
use Rattle.row_stream.proofs.ending.leave.Goals as goal

pub returns-then-off-clause-ended : goal.returns-then-off-clause-ended
returns-then-off-clause-ended g c = λ raw seed asked had is.
    let P : Bool → Type 0 = λ off.
    (left : IsLeft raw seed (stays_off off asked) (with_cut off asked) c.stay_off.new.pcm (g.A.CellArray.state c.stay_off.new.array) c.stay_off.new.out.rows c.stay_off.new.out.told c.stay_off.new.out.prints c.stay_off.new.out.snapshots)
    × (without_cut off asked (told_along left.0) ≡ told_so_far had) in
    subst P (sym c.if-off.true) (c.stay_off.ensures.ended raw seed asked had is)

pub returns-else-off-clause-ended : goal.returns-else-off-clause-ended
returns-else-off-clause-ended g c = λ raw seed asked had is.
    let P : Bool → Type 0 = λ off.
    (left : IsLeft raw seed (stays_off off asked) (with_cut off asked) c.drain.new.pcm (g.A.CellArray.state c.drain.new.array) c.drain.new.out.rows c.drain.new.out.told c.drain.new.out.prints c.drain.new.out.snapshots)
    × (without_cut off asked (told_along left.0) ≡ told_so_far had) in
    subst P (sym c.if-off.false) (c.drain.ensures.ended raw seed asked had)
