use Rattle.std.proofs.Common.{false, [], ◌∷◌, ◌∙◌}
use Rattle.row_printer.specs.declared.told.Told.TheVariants.{Settled}
use Rattle.row_stream.{specs.Answering.banks_told, proofs.Backlogs.lines-both, proofs.Going.{banks-order, serving-query}}
use Rattle.row_stream.proofs.answering.serve_query.Goals as goal

pub returns-clause-serves : goal.returns-clause-serves
returns-clause-serves g c = record {
  serving = λ raw seed before had.
      let on = c.settle.ensures.goes_on in
      let e = c.settle.ensures in
      let same = c.settled.ensures.rows ∙ c.tell_banks.ensures.rows in
      let order = banks-order raw seed before c.args.pcm.now (g.A.CellArray.state c.args.array.now) c.args.out.now.rows c.args.out.now.told c.args.out.now.prints c.args.out.now.snapshots had false g.K.Sink.written g.K.Sink.faults c.args.out.now c.settle.new.results c.tells_once.ensures e.order in
      serving-query raw seed before c.args.pcm.now (g.A.CellArray.state c.args.array.now) c.args.out.now.rows c.args.out.now.told c.args.out.now.prints c.args.out.now.snapshots had c.args.tick
      c.settle.new.self (g.A.CellArray.state c.settle.new.array) c.settled.new.self.rows c.settle.new.results.told c.settled.new.self.told c.settled.new.self.prints c.settled.new.self.snapshots
      (same ∙ on.rows) order.outcomes order.told order.are (lines-both c.settle.new.results.told c.tell_banks.new.out.told c.settled.new.self.told (banks_told c.settle.new.self c.args.tick c.settle.new.self.shape.banks) (Settled c.args.tick ∷ []) c.tell_banks.ensures.told c.settled.ensures.told) e.shape e.seed e.going e.tick c.requires.rises e.settled c.requires.in_time e.rows (rw same e.table) (rw same e.replays)
      (c.settled.ensures.prints ∙ c.tell_banks.ensures.prints ∙ on.prints) (c.settled.ensures.snapshots ∙ c.tell_banks.ensures.snapshots ∙ on.snapshots);
  prints = c.settled.ensures.prints ∙ c.tell_banks.ensures.prints ∙ c.settle.ensures.goes_on.prints;
  wear = c.settle.ensures.stays.wear;
}

pub returns-clause-printing : goal.returns-clause-printing
returns-clause-printing g c = λ before first h. c.settled.ensures.printing before first (c.tell_banks.ensures.printing before first (c.settle.ensures.goes_on.printing before first h))
