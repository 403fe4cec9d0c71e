use Rattle.std.proofs.Common.{◌≡◌, ℕ, List, ◌∙◌, sym, subst}
use Rattle.row_printer.specs.{Snapshots.{AddsDue, takes_snapshots}, declared.told.Shown.Shown, declared.told.Told.Told}
use Rattle.row_stream.specs.{Asking.{stays_off, tick_reached, with_cut}, Ending.{EndsShowing, told_along, without_cut}, Looking.IsSnapshot, Serving.told_so_far}
use Rattle.row_stream.proofs.Ends.{cut-tick}
use Rattle.row_stream.proofs.ending.end.Goals as goal

pub returns-clause-ended : goal.returns-clause-ended
returns-clause-ended g c = λ raw seed asked had is.
    let all = c.leave.ensures.ended raw seed asked had is in
    let left = all.0 in
    let out = c.leave.new.out in
    let array = g.A.CellArray.state c.leave.new.array in
    let Last : ℕ → Type 0 = λ tick. AddsDue (takes_snapshots out.prints) (IsSnapshot out.rows tick out.told c.leave.new.pcm array) out.snapshots c.show_last.new.out.snapshots in
    let last : Last (tick_reached (with_cut c.args.off asked)) = subst Last (c.tick-tick.ensures ∙ had.tick ∙ sym (cut-tick c.args.off asked)) (c.show_last.ensures.looks.snapshots left.0.ends left.0.are) in
    let Ends : ℕ → List (Told g.row.B) → Shown → Type 0 = λ rows told prints.
    (shows : EndsShowing raw seed (stays_off c.args.off asked) (with_cut c.args.off asked) c.leave.new.pcm array rows told prints c.show_last.new.out.snapshots)
    × (without_cut c.args.off asked (told_along shows.0) ≡ told_so_far had) in
    subst (λ rows. Ends rows c.show_last.new.out.told c.show_last.new.out.prints) (sym c.show_last.ensures.looks.rows)
    (subst (λ told. Ends out.rows told c.show_last.new.out.prints) (sym c.show_last.ensures.looks.told)
    (subst (λ prints. Ends out.rows out.told prints) (sym c.show_last.ensures.looks.prints) ((left.0, (out.snapshots, left.1, last)), all.1)))

pub returns-clause-prints : goal.returns-clause-prints
returns-clause-prints g c = c.show_last.ensures.looks.prints ∙ c.leave.ensures.prints

pub returns-clause-printing : goal.returns-clause-printing
returns-clause-printing g c = λ before first h. c.show_last.ensures.printing before first (c.leave.ensures.printing before first h)
