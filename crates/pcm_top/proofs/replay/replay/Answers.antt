use Rattle.std.proofs.Common.{◌≡◌, ◌∙◌, ◌++◌, List, Some, length, refl, subst, arith, rules}
use Rattle.std.{specs.Prelude.slice_get, proofs.lemmas.Option.slice_get_read}
use Rattle.row_rules.specs.declared.Row.{Row}
use Rattle.right_runs.specs.Runs.{RunsRight}
use Rattle.pcm_module.proofs.Tables.{rows-forwards}
use Rattle.pcm_top.proofs.Replaying.{next-event, next-open, replayed-all, replayed-more, replayed-none}
use Rattle.pcm_top.proofs.replay.replay.Goals as goal
use Rattle.trace_reader.proofs.Sizes.{event_fits}

pub loop-i-init : goal.loop-i-init
loop-i-init g c = (
  replayed-none c.args.pcm.now.shape c.args.pcm.now.seed c.args.events.now c.args.pcm.now (g.A.CellArray.state c.args.array.now) c.args.results.now
      c.requires.ready c.requires.events,
  refl,
)

pub event-requires : goal.event-requires
event-requires g c =
    let had = c.loop-i.invariant.0 in
    let events = c.args.events.now in
    let event = c.index-events-i.result in
    let at : slice_get events c.loop-i.i ≡ Some event = slice_get_read events (length events) c.loop-i.i event refl c.loop-i-test.true c.index-events-i.is in
    let state = g.A.CellArray.state c.loop-i.array in (
      omega arith,
      (
        event_fits g.row.B c.requires.layout.shape.1,
        record {
          going = had.going;
          replayed = (had.led.0, _, had.led.1);
          lawful = next-event c.args.pcm.now.shape c.args.pcm.now.seed events c.loop-i.i event at c.loop-i.pcm state c.loop-i.results had;
          rises = had.bound;
          fresh = next-open c.args.pcm.now.shape c.args.pcm.now.seed events c.loop-i.i event at c.loop-i.pcm state c.loop-i.results had;
        },
      ),
    )

pub loop-i-preserved : goal.loop-i-preserved
loop-i-preserved g c =
    let events = c.args.events.now in
    let event = c.index-events-i.result in
    let at : slice_get events c.loop-i.i ≡ Some event = slice_get_read events (length events) c.loop-i.i event refl c.loop-i-test.true c.index-events-i.is in
    let e = c.event.ensures.takes in (
      replayed-more c.args.pcm.now.shape c.args.pcm.now.seed events c.loop-i.i event at c.loop-i.pcm (g.A.CellArray.state c.loop-i.array) c.loop-i.results c.loop-i.invariant.0
          c.event.new.self (g.A.CellArray.state c.event.new.array) c.event.new.results e.shape e.seed (e.going ∙ c.loop-i.invariant.0.going) e.tick e.rows e.table e.replays e.open_rows,
      e.stays.wear ∙ c.loop-i.invariant.1,
    )

pub returns : goal.returns
returns g c =
    let all =
    replayed-all c.args.pcm.now.shape c.args.pcm.now.seed c.args.events.now c.loop-i.i c.loop-i.pcm (g.A.CellArray.state c.loop-i.array) c.loop-i.results
    c.loop-i-test.false c.loop-i.invariant.0 in
    let had = c.loop-i.invariant.0 in
    let own = c.finish.ensures.right all.0 _ all.1 in
    let done = c.finish.ensures.finishes all.0 _ all.1 in
    let size : length c.finish.new.results ≡ length c.args.events.now = c.finish.ensures.table ∙ had.size in
    let Right : List (Row g.row.B) → Type 0 = λ rows. RunsRight g.row.E c.finish.new.self.shape c.finish.new.self.seed rows (g.A.CellArray.state c.finish.new.array) own.0 in
    record {
      shape = search rules;
      seeded = search rules;
      played = record { history = λ bank. done.0 bank ++ all.0 bank; one_each = size; finished = done.1 };
      right = (own.0, own.1, subst Right (rows-forwards c.args.events.now c.finish.new.results size) own.2);
      wear = c.finish.ensures.stays.wear ∙ c.loop-i.invariant.1;
    }
