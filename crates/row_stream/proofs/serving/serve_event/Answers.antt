use Rattle.std.proofs.Common.{◌≡◌, ◌∙◌, ◌+◌, ◌++◌, ℕ, List, ◌∷◌, ap, refl, arith}
use Rattle.row_printer.specs.{Printing.table_told, Telling.became, declared.snapshot.Snapshot.Snapshot, declared.told.Shown.Shown, declared.told.Told.Told}
use Rattle.trace_stream.specs.declared.asked.Asked.TheVariants.{Happens}
use Rattle.row_stream.{specs.Serving.{IsServing, told_before, told_so_far}, proofs.Alike.told-same, proofs.Going.{event-order, next-bound, next-open, next-replayed, serving-event}}
use Rattle.row_stream.proofs.serving.serve_event.Goals as goal
use Rattle.trace_reader.proofs.Sizes.{event_fits}

pub event-requires : goal.event-requires
event-requires g c =
    let s = c.requires.serving in
    let state = g.A.CellArray.state c.args.array.now in
    let row : c.rows-row.result ≡ c.args.out.now.rows + 1 = c.rows-row.ensures ∙ c.add_row.ensures.rows in
    let had = s.serving in (
      omega arith,
      (
        event_fits g.row.B c.requires.layout.shape.1,
        record {
          going = had.served.going;
          replayed = next-replayed s.raw s.seed s.before c.args.pcm.now state c.args.out.now.rows c.args.out.now.told c.args.out.now.prints c.args.out.now.snapshots had (table_told c.add_row.new.self) c.add_row.ensures.table;
          lawful = c.requires.event;
          rises = next-bound s.raw s.seed s.before c.args.pcm.now state c.args.out.now.rows c.args.out.now.told c.args.out.now.prints c.args.out.now.snapshots had c.rows-row.result row;
          fresh = next-open s.raw s.seed s.before c.args.pcm.now state c.args.out.now.rows c.args.out.now.told c.args.out.now.prints c.args.out.now.snapshots had (table_told c.add_row.new.self) c.rows-row.result c.add_row.ensures.table row;
        },
      ),
    )

pub returns-clause-serves : goal.returns-clause-serves
returns-clause-serves g c = record {
  serving = λ raw seed before had.
      let row : c.rows-row.result ≡ c.args.out.now.rows + 1 = c.rows-row.ensures ∙ c.add_row.ensures.rows in
      let on = c.event.ensures.goes_on in
      let e = c.event.ensures.takes in
      let order = event-order raw seed before c.args.pcm.now (g.A.CellArray.state c.args.array.now) c.args.out.now.rows c.args.out.now.told c.args.out.now.prints c.args.out.now.snapshots had g.K.Sink.written g.K.Sink.faults c.args.event.now c.rows-row.result
      c.add_row.new.self c.event.new.results row c.shape.ensures.in_range c.requires.event.op c.tells_once.ensures c.event.ensures.order in
      let Goes : ℕ → List (Told g.row.B) → Shown → List Snapshot → Type 0 = λ rows told prints snaps.
      (has : IsServing raw seed (Happens c.args.event.now ∷ before) c.event.new.self (g.A.CellArray.state c.event.new.array) rows told prints snaps)
      × (told_before (Happens c.args.event.now) before (told_so_far has) ≡ told_so_far had) in
      told-same Goes c.event.new.results.rows c.show_due.new.out.rows c.event.new.results.told c.show_due.new.out.told c.event.new.results.prints c.show_due.new.out.prints c.show_due.new.out.snapshots c.show_due.new.out.snapshots
      c.show_due.ensures.looks.rows c.show_due.ensures.looks.told c.show_due.ensures.looks.prints refl
      (serving-event raw seed before c.args.pcm.now (g.A.CellArray.state c.args.array.now) c.args.out.now.rows c.args.out.now.told c.args.out.now.prints c.args.out.now.snapshots had c.args.event.now
      c.event.new.self (g.A.CellArray.state c.event.new.array) c.event.new.results.rows c.event.new.results.told c.event.new.results.prints c.event.new.results.snapshots c.show_due.new.out.snapshots c.rows-row.result (table_told c.add_row.new.self)
      c.add_row.ensures.table row (on.rows ∙ c.add_row.ensures.rows) order.outcomes (order.told ∙ ap (λ t. t ++ became order.outcomes) c.add_row.ensures.told) order.are
      e.shape e.seed (e.going ∙ had.served.going) e.tick c.requires.event.rises c.requires.event.in_time e.rows e.table e.replays
      (on.prints ∙ c.add_row.ensures.prints) (on.snapshots ∙ c.add_row.ensures.snapshots) c.show_due.ensures.looks.snapshots);
  prints = c.show_due.ensures.looks.prints ∙ c.event.ensures.goes_on.prints ∙ c.add_row.ensures.prints;
  wear = c.event.ensures.takes.stays.wear;
}

pub returns-clause-printing : goal.returns-clause-printing
returns-clause-printing g c = λ before first h. c.show_due.ensures.printing before first (c.event.ensures.goes_on.printing before first (c.add_row.ensures.printing before first h))
