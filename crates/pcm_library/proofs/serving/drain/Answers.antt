use Rattle.std.proofs.Common.{true, false}
use Rattle.trace_stream.specs.Asked.{events_in}
use Rattle.row_stream.proofs.{Ends.has-ended, Going.banks-order}
use Rattle.pcm_module.specs.{Asking.asked_for, Telling.rows_at}
use Rattle.pcm_library.{specs.Keeping.{unfailing, unwritten}, proofs.Keeping.kept-banks}
use Rattle.pcm_library.proofs.serving.drain.Goals as goal

pub returns-clause-ended : goal.returns-clause-ended
returns-clause-ended g c = λ raw seed asked had.
    let on = c.finish.ensures.goes_on.prints in
    let e = c.finish.ensures in
    let order = banks-order raw seed asked c.args.pcm.now (g.A.CellArray.state c.args.array.now) c.args.out.now.rows c.args.out.now.told c.args.out.now.prints c.args.out.now.snapshots had true unwritten unfailing c.args.out.now c.finish.new.results c.tells_once.ensures.once
    (kept-banks true (rows_at c.args.pcm.now) c.args.pcm.now.shape.banks c.args.out.now c.finish.new.results e.order) in
    has-ended raw seed asked c.args.pcm.now (g.A.CellArray.state c.args.array.now) c.args.out.now.rows c.args.out.now.told c.args.out.now.prints c.args.out.now.snapshots had false
    c.finish.new.self (g.A.CellArray.state c.finish.new.array) c.finish.new.results.rows c.finish.new.results.told c.finish.new.results.prints c.finish.new.results.snapshots on.prints on.snapshots on.rows order.outcomes order.told order.are e.shape e.seed e.table
    (e.finishes had.history (asked_for (events_in asked)) had.served.replays) (e.right had.history (asked_for (events_in asked)) had.served.replays)
