use Rattle.std.proofs.Common.{◌≡◌, ◌∙◌, ◌+◌, ap, sym, arith}
use Rattle.trace_reader.proofs.Sizes.{event_fits}
use Rattle.pcm_module.specs.Asking.{asked_for}
use Rattle.disk_lines.{specs.Hearing.{events_in, refusals_in, refuses_by, table_in}, proofs.Asking.{grown-replays, has-next, may-open, may-rise, takes-next}}
use Rattle.disk_lines.proofs.rows.RunningModule.hand_in.Goals as goal
use Rattle.bank_timing.specs.Extending.{outcome_in}

pub event-requires : goal.event-requires
event-requires g c =
    let old = c.args.self.now in
    let state = g.A.CellArray.state old.array in
    let had = c.requires.has in
    let results = table_in c.add.new.self.heard in
    let grown = ap table_in c.add.ensures.heard in
    let row : c.rows-row.result ≡ old.watch.rows + 1 = c.rows-row.ensures.rows ∙ c.add.ensures.rows in (
      omega arith,
      (
        event_fits g.row.B c.requires.layout.shape.1,
        record {
          going = had.served.going;
          replayed = (had.history, asked_for (events_in old.watch.heard), grown-replays old.module state old.watch.heard had old.watch.rows c.rows.ensures.counted results grown);
          lawful = c.requires.event;
          rises = may-rise old.module state old.watch.heard had old.watch.rows c.rows.ensures.counted results grown c.rows-row.result row;
          fresh = may-open old.module state old.watch.heard had old.watch.rows c.rows.ensures.counted results grown c.rows-row.result row;
        },
      ),
    )

pub returns-clause-has : goal.returns-clause-has
returns-clause-has g c =
    let old = c.args.self.now in
    let state = g.A.CellArray.state old.array in
    let had = c.requires.has in
    let grown = ap table_in c.add.ensures.heard in
    let e = c.event.ensures.takes in
    let led = e.replays had.history (asked_for (events_in old.watch.heard)) (grown-replays old.module state old.watch.heard had old.watch.rows c.rows.ensures.counted (table_in c.add.new.self.heard) grown) in
    has-next old.module c.event.new.self state (g.A.CellArray.state c.event.new.array) old.watch c.event.new.results had c.shape.ensures.in_range e.shape e.seed e.going
    (c.rows-2.ensures.size ∙ sym c.rows-2.ensures.counted) led.0 c.args.event.now c.rows-row.result (c.event.ensures.goes_on.events ∙ ap events_in c.add.ensures.heard)
    (omega (arith, c.rows-row.ensures.rows, c.add.ensures.rows, c.rows.ensures.counted)) led.1 (omega (arith, e.tick, c.requires.event.in_time)) e.rows

pub returns-clause-takes : goal.returns-clause-takes
returns-clause-takes g c =
    let old = c.args.self.now in
    let state = g.A.CellArray.state old.array in
    let had = c.requires.has in
    let grown = ap table_in c.add.ensures.heard in
    let e = c.event.ensures.takes in
    let on = c.event.ensures.goes_on in
    let led = e.replays had.history (asked_for (events_in old.watch.heard)) (grown-replays old.module state old.watch.heard had old.watch.rows c.rows.ensures.counted (table_in c.add.new.self.heard) grown) in
    takes-next old.module c.event.new.self state (g.A.CellArray.state c.event.new.array) old.watch c.event.new.results had c.shape.ensures.in_range e.shape e.seed e.going
    (c.rows-2.ensures.size ∙ sym c.rows-2.ensures.counted) led.0 c.args.event.now c.rows-row.result (on.events ∙ ap events_in c.add.ensures.heard)
    (omega (arith, c.rows-row.ensures.rows, c.add.ensures.rows, c.rows.ensures.counted)) led.1 c.no_row_takes_back_bytes.ensures
    (ap (outcome_in (table_in c.event.new.results.heard)) (c.rows-row.ensures.rows ∙ sym on.rows) ∙ c.last.ensures.newest) e.tick c.requires.event.rises
    (omega (arith, on.refused, ap refusals_in c.add.ensures.heard, ap refuses_by c.add.ensures.last))
