use Rattle.std.proofs.Common.{◌≡◌, ◌∙◌, ◌+◌, ◌++◌, ap, arith, refl}
use Rattle.row_printer.specs.{Printing.table_told, Telling.became}
use Rattle.trace_rows.specs.Rows.{asks_of}
use Rattle.row_stream.proofs.Going.{event-order, next-bound, next-open, next-replayed, serving-event}
use Rattle.trace_reader.proofs.Sizes.{event_fits}
use Rattle.pcm_library.{specs.Keeping.{unfailing, unwritten}, proofs.Keeping.{kept-for, none-due}}
use Rattle.pcm_library.proofs.serving.serve_event.Goals as goal

pub event-requires : goal.event-requires
event-requires g c =
    let s = c.requires.serving in
    let state = g.A.CellArray.state c.args.array.now in
    let row : c.rows-row.result ≡ c.args.out.now.rows + 1 = c.rows-row.ensures ∙ c.in_ok-add_row.ensures.rows in
    let had = s.serving in (
      omega arith,
      (
        event_fits g.row.B c.requires.layout.shape.1,
        record {
          going = had.served.going;
          replayed = next-replayed s.raw s.seed s.before c.args.pcm.now state c.args.out.now.rows c.args.out.now.told c.args.out.now.prints c.args.out.now.snapshots had (table_told c.add_row.new.self) c.in_ok-add_row.ensures.table;
          lawful = c.requires.event;
          rises = next-bound s.raw s.seed s.before c.args.pcm.now state c.args.out.now.rows c.args.out.now.told c.args.out.now.prints c.args.out.now.snapshots had c.rows-row.result row;
          fresh = next-open s.raw s.seed s.before c.args.pcm.now state c.args.out.now.rows c.args.out.now.told c.args.out.now.prints c.args.out.now.snapshots had (table_told c.add_row.new.self) c.rows-row.result c.in_ok-add_row.ensures.table row;
        },
      ),
    )

pub returns-clause-serves : goal.returns-clause-serves
returns-clause-serves g c = record {
  serving = λ raw seed before had.
      let row : c.rows-row.result ≡ c.args.out.now.rows + 1 = c.rows-row.ensures ∙ c.in_ok-add_row.ensures.rows in
      let on = c.event.ensures.goes_on.prints in
      let e = c.event.ensures.takes in
      let order = event-order raw seed before c.args.pcm.now (g.A.CellArray.state c.args.array.now) c.args.out.now.rows c.args.out.now.told c.args.out.now.prints c.args.out.now.snapshots had unwritten unfailing c.args.event.now c.rows-row.result
      c.add_row.new.self c.event.new.results row c.shape.ensures.in_range c.requires.event.op c.tells_once.ensures.once
      (kept-for c.args.pcm.now c.rows-row.result (asks_of c.args.event.now.op) c.add_row.new.self c.event.new.results c.event.ensures.order) in
      serving-event raw seed before c.args.pcm.now (g.A.CellArray.state c.args.array.now) c.args.out.now.rows c.args.out.now.told c.args.out.now.prints c.args.out.now.snapshots had c.args.event.now
      c.event.new.self (g.A.CellArray.state c.event.new.array) c.event.new.results.rows c.event.new.results.told c.event.new.results.prints c.event.new.results.snapshots c.event.new.results.snapshots c.rows-row.result (table_told c.add_row.new.self)
      c.in_ok-add_row.ensures.table row (on.rows ∙ c.in_ok-add_row.ensures.rows) order.outcomes (order.told ∙ ap (λ t. t ++ became order.outcomes) c.add_row.ensures.told) order.are
      e.shape e.seed (e.going ∙ had.served.going) e.tick c.requires.event.rises c.requires.event.in_time e.rows e.table e.replays
      (on.prints ∙ c.add_row.ensures.prints) (on.snapshots ∙ c.add_row.ensures.snapshots)
      (λ ends are. none-due c.event.new.results.prints c.event.new.results.rows _ c.event.new.results.snapshots c.event.new.results.snapshots c.tells_once.ensures.prints refl);
  prints = c.event.ensures.goes_on.prints.prints ∙ c.add_row.ensures.prints;
  wear = c.event.ensures.takes.stays.wear;
}

pub returns-clause-taken : goal.returns-clause-taken
returns-clause-taken g c = c.event.ensures.goes_on.taken ∙ ap (λ s. s.taken) c.add_row.ensures.sink
