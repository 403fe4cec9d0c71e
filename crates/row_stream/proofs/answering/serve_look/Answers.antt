use Rattle.std.proofs.Common.{◌≡◌, false, [], ◌∷◌, ◌++◌, ap, ◌∙◌}
use Rattle.row_printer.specs.{declared.told.ArrayWear.ArrayWear, declared.told.Told.TheVariants.{Looked, Settled}}
use Rattle.row_stream.{specs.Looking.wear_of, proofs.Backlogs.lines-both, proofs.Going.{banks-order, serving-look}}
use Rattle.row_stream.proofs.answering.serve_look.Goals as goal

pub returns-clause-serves : goal.returns-clause-serves
returns-clause-serves g c = record {
  serving = λ raw seed before had.
      let on = c.settle.ensures.goes_on in
      let e = c.settle.ensures in
      let same = c.settled.ensures.rows ∙ c.looked.ensures.rows in
      let was = c.settle.new.results.told in
      let wear : ArrayWear = wear_of g.row.E (g.A.CellArray.state c.settle.new.array) in
      let looked : c.looked.new.self.told ≡ was ++ Looked c.args.tick wear ∷ [] =
      c.looked.ensures.told ∙ ap (λ (w : ArrayWear). was ++ Looked c.args.tick w ∷ []) c.array_wear-wear.ensures in
      let order = banks-order raw seed before c.args.pcm.now (g.A.CellArray.state c.args.array.now) c.args.out.now.rows c.args.out.now.told c.args.out.now.prints c.args.out.now.snapshots had false g.K.Sink.written g.K.Sink.faults c.args.out.now c.settle.new.results c.tells_once.ensures e.order in
      serving-look raw seed before c.args.pcm.now (g.A.CellArray.state c.args.array.now) c.args.out.now.rows c.args.out.now.told c.args.out.now.prints c.args.out.now.snapshots had c.args.tick
      c.settle.new.self (g.A.CellArray.state c.settle.new.array) c.settled.new.self.rows was c.settled.new.self.told c.settled.new.self.prints c.settled.new.self.snapshots
      (same ∙ on.rows) order.outcomes order.told order.are (lines-both was c.looked.new.self.told c.settled.new.self.told (Looked c.args.tick wear ∷ []) (Settled c.args.tick ∷ []) looked c.settled.ensures.told) e.shape e.seed e.going e.tick c.requires.rises e.settled c.requires.in_time e.rows (rw same e.table) (rw same e.replays)
      (c.settled.ensures.prints ∙ c.looked.ensures.prints ∙ on.prints) (c.settled.ensures.snapshots ∙ c.looked.ensures.snapshots ∙ on.snapshots);
  prints = c.settled.ensures.prints ∙ c.looked.ensures.prints ∙ c.settle.ensures.goes_on.prints;
  wear = c.settle.ensures.stays.wear;
}

pub returns-clause-printing : goal.returns-clause-printing
returns-clause-printing g c = λ before first h. c.settled.ensures.printing before first (c.looked.ensures.printing before first (c.settle.ensures.goes_on.printing before first h))
