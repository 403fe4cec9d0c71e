use Rattle.std.proofs.Common.{◌≡◌, ℕ, List, false, [], ◌∷◌, ◌++◌, ap, ◌∙◌, arith}
use Rattle.pcm_module.specs.{Asking.asked_for, State.stand_now}
use Rattle.row_printer.specs.{declared.told.PeekedLine.PeekedLine, declared.told.Told.TheVariants.{Peeked, Settled}}
use Rattle.trace_stream.specs.Asked.{events_in}
use Rattle.row_stream.proofs.{Backlogs.lines-both, Going.{banks-order, serving-peek}}
use Rattle.row_stream.proofs.answering.serve_peek.Goals as goal

pub newest-bytes-requires : goal.newest-bytes-requires
newest-bytes-requires g c =
    let s = c.requires.serving in
    let led = c.settle.ensures.replays s.serving.history (asked_for (events_in s.before)) s.serving.served.replays in
    (omega arith, (omega (arith, c.requires.layout.shape.1), (c.requires.layout, (rw c.settle.ensures.shape c.requires.exists, led.1.size))))

pub returns-clause-serves : goal.returns-clause-serves
returns-clause-serves g c = record {
  serving = λ raw seed before had.
      let on = c.settle.ensures.goes_on in
      let e = c.settle.ensures in
      let same = c.settled.ensures.rows ∙ c.peeked.ensures.rows in
      let was = c.settle.new.results.told in
      let tick = c.args.peek.now.tick in
      let line = c.args.peek.now.line in
      let newest : List ℕ → PeekedLine g.row.B = λ bytes. record { line = line; bytes = bytes } in
      let stands = stand_now c.settle.new.self (g.A.CellArray.state c.settle.new.array) line in
      let peeked : c.peeked.new.self.told ≡ was ++ Peeked tick (newest stands) ∷ [] =
      c.peeked.ensures.told ∙ ap (λ (bytes : List ℕ). was ++ Peeked tick (newest bytes) ∷ []) c.newest-bytes.ensures in
      let order = banks-order raw seed before c.args.pcm.now (g.A.CellArray.state c.args.array.now) c.args.out.now.rows c.args.out.now.told c.args.out.now.prints c.args.out.now.snapshots had false g.K.Sink.written g.K.Sink.faults c.args.out.now c.settle.new.results c.tells_once.ensures e.order in
      serving-peek raw seed before c.args.pcm.now (g.A.CellArray.state c.args.array.now) c.args.out.now.rows c.args.out.now.told c.args.out.now.prints c.args.out.now.snapshots had tick line
      c.settle.new.self (g.A.CellArray.state c.settle.new.array) c.settled.new.self.rows was c.settled.new.self.told c.settled.new.self.prints c.settled.new.self.snapshots
      (same ∙ on.rows) order.outcomes order.told order.are (lines-both was c.peeked.new.self.told c.settled.new.self.told (Peeked tick (newest stands) ∷ []) (Settled tick ∷ []) peeked c.settled.ensures.told) e.shape e.seed e.going e.tick c.requires.rises e.settled (rw e.shape c.requires.exists) c.requires.in_time e.rows (rw same e.table) (rw same e.replays)
      (c.settled.ensures.prints ∙ c.peeked.ensures.prints ∙ on.prints) (c.settled.ensures.snapshots ∙ c.peeked.ensures.snapshots ∙ on.snapshots);
  prints = c.settled.ensures.prints ∙ c.peeked.ensures.prints ∙ c.settle.ensures.goes_on.prints;
  wear = c.settle.ensures.stays.wear;
}

pub returns-clause-printing : goal.returns-clause-printing
returns-clause-printing g c = λ before first h. c.settled.ensures.printing before first (c.peeked.ensures.printing before first (c.settle.ensures.goes_on.printing before first h))
