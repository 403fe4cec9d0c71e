use Rattle.std.proofs.Common.{arith, true}
use Rattle.trace_stream.specs.Asked.{events_in}
use Rattle.row_stream.proofs.{Ends.{has-ended, last-cut}, Going.banks-order}
use Rattle.row_stream.proofs.ending.stop.Goals as goal
use Rattle.pcm_module.specs.Asking.{asked_for}

pub stop-requires : goal.stop-requires
stop-requires g c =
    let s = c.requires.serving in
    let had = s.3 in
    (omega arith, (had.served.going, (g.A.CellArray.state c.args.array.now, had.history, asked_for (events_in s.2), had.served.replays, last-cut s.2 c.args.pcm.now.tick s.4 had.tick)))

pub returns-clause-ended : goal.returns-clause-ended
returns-clause-ended g c = λ raw seed asked had off.
    let on = c.stop.ensures.goes_on in
    let e = c.stop.ensures in
    let last = last-cut asked c.args.pcm.now.tick off had.tick in
    let state = g.A.CellArray.state c.args.array.now in
    let order = banks-order raw seed asked c.args.pcm.now state c.args.out.now.rows c.args.out.now.told c.args.out.now.prints c.args.out.now.snapshots had true g.K.Sink.written g.K.Sink.faults c.args.out.now c.stop.new.results c.tells_once.ensures e.order in
    has-ended raw seed asked c.args.pcm.now state c.args.out.now.rows c.args.out.now.told c.args.out.now.prints c.args.out.now.snapshots had true
    c.stop.new.self state c.stop.new.results.rows c.stop.new.results.told c.stop.new.results.prints c.stop.new.results.snapshots on.prints on.snapshots on.rows order.outcomes order.told order.are e.shape e.seed e.table
    (e.stops state had.history (asked_for (events_in asked)) had.served.replays last) (e.right state had.history (asked_for (events_in asked)) had.served.replays last)
