use Rattle.std.proofs.Common.{false, ◌∙◌, ap}
use Rattle.pcm_module.specs.Telling.{rows_at}
use Rattle.row_stream.proofs.Going.{banks-order, serving-settle}
use Rattle.pcm_library.{specs.Keeping.{unfailing, unwritten}, proofs.Keeping.kept-banks}
use Rattle.pcm_library.proofs.serving.serve_settle.Goals as goal

pub returns-clause-serves : goal.returns-clause-serves
returns-clause-serves g c = record {
  serving = λ raw seed before had.
      let on = c.settle.ensures.goes_on.prints in
      let e = c.settle.ensures in
      let same = c.settled.ensures.rows in
      let order = banks-order raw seed before c.args.pcm.now (g.A.CellArray.state c.args.array.now) c.args.out.now.rows c.args.out.now.told c.args.out.now.prints c.args.out.now.snapshots had false unwritten unfailing c.args.out.now c.settle.new.results c.tells_once.ensures.once
      (kept-banks false (rows_at c.args.pcm.now) c.args.pcm.now.shape.banks c.args.out.now c.settle.new.results e.order) in
      serving-settle raw seed before c.args.pcm.now (g.A.CellArray.state c.args.array.now) c.args.out.now.rows c.args.out.now.told c.args.out.now.prints c.args.out.now.snapshots had c.args.tick
      c.settle.new.self (g.A.CellArray.state c.settle.new.array) c.settled.new.self.rows c.settle.new.results.told c.settled.new.self.told c.settled.new.self.prints c.settled.new.self.snapshots
      (same ∙ on.rows) order.outcomes order.told order.are c.settled.ensures.told e.shape e.seed e.going e.tick c.requires.rises e.settled c.requires.in_time e.rows (rw same e.table) (rw same e.replays)
      (c.settled.ensures.prints ∙ on.prints) (c.settled.ensures.snapshots ∙ on.snapshots);
  prints = c.settled.ensures.prints ∙ c.settle.ensures.goes_on.prints.prints;
  wear = c.settle.ensures.stays.wear;
}

pub returns-clause-taken : goal.returns-clause-taken
returns-clause-taken g c = ap (λ s. s.taken) c.settled.ensures.sink ∙ c.settle.ensures.goes_on.taken
