use Rattle.library_promise.proofs.Rows.{in-the-end, so-far, stands-newest}
use Rattle.library_promise.proofs.tells_by_rows.Goals as goal

pub returns-clause-so_far : goal.returns-clause-so_far
returns-clause-so_far g c = λ going.
    let s = c.args.session.now in
    so-far g.row.E s.module_ (g.A.CellArray.state s.array) s.asked s.kept.rows s.kept.told c.no_moment_loses_bytes.ensures c.tells_all.ensures.shape s.kept.prints s.kept.snapshots
    c.what_is_told_by_a_settle_stays_so_far.ensures c.outcomes_are_told_in_turn_so_far.ensures (c.tells_all.ensures.serving going)

pub returns-clause-ended : goal.returns-clause-ended
returns-clause-ended g c = λ finished.
    let s = c.args.session.now in
    in-the-end g.row.E s.module_ (g.A.CellArray.state s.array) s.asked s.kept.rows s.kept.told c.no_moment_loses_bytes.ensures c.tells_all.ensures.shape s.off
    c.what_is_told_by_a_settle_stays.ensures c.outcomes_are_told_in_turn.ensures (c.tells_all.ensures.ended finished)

pub returns-clause-newest : goal.returns-clause-newest
returns-clause-newest g c = λ going.
    let s = c.args.session.now in
    stands-newest g.row.E s.module_ (g.A.CellArray.state s.array) s.asked s.kept.rows s.kept.told c.no_moment_loses_bytes.ensures c.tells_all.ensures.shape s.kept.prints s.kept.snapshots
    (c.tells_all.ensures.serving going)
