use Rattle.std.proofs.Common.{arith, true}
use Rattle.trace_stream.specs.Asked.{events_in}
use Rattle.row_stream.proofs.{Ends.{has-ended, last-cut}, Going.banks-order}
use Rattle.pcm_module.specs.{Asking.asked_for, Telling.rows_at}
use Rattle.pcm_library.{specs.Keeping.{unfailing, unwritten}, proofs.Keeping.kept-banks}
use Rattle.pcm_library.proofs.serving.stay_off.Goals as goal

pub stop-requires : goal.stop-requires
stop-requires g c =
    let s = c.requires.serving in
    let had = s.3 in
    (omega arith, (had.served.going, (g.A.CellArray.state c.args.array.now, had.history, asked_for (events_in s.2), had.served.replays, last-cut s.2 c.args.pcm.now.tick s.4 had.tick)))

pub returns-clause-ended : goal.returns-clause-ended
returns-clause-ended g c = λ raw seed asked had off.
    let on = c.stop.ensures.goes_on.prints in
    let e = c.stop.ensures in
    let last = last-cut asked c.args.pcm.now.tick off had.tick in
    let state = g.A.CellArray.state c.args.array.now in
    let out = c.args.out.now in
    let results = c.stop.new.results in
    let order = banks-order raw seed asked c.args.pcm.now state out.rows out.told out.prints out.snapshots had true unwritten unfailing out results c.tells_once.ensures.once
    (kept-banks true (rows_at c.args.pcm.now) c.args.pcm.now.shape.banks out results e.order) in
    has-ended raw seed asked c.args.pcm.now state out.rows out.told out.prints out.snapshots had true
    c.stop.new.self state results.rows results.told results.prints results.snapshots on.prints on.snapshots on.rows order.outcomes order.told order.are e.shape e.seed e.table
    (e.stops state had.history (asked_for (events_in asked)) had.served.replays last) (e.right state had.history (asked_for (events_in asked)) had.served.replays last)
