use Rattle.stream_promise.proofs.Promise.{promises, waits-by-rows}
use Rattle.stream_promise.proofs.run_stream.Goals as goal

pub returns-clause-promises : goal.returns-clause-promises
returns-clause-promises g c =
    promises (record {
      moment = c.no_moment_loses_bytes.ensures;
      whole = c.streams_settle_for_good.ensures.whole;
      begun = c.streams_settle_for_good.ensures.begun;
      ended_turns = c.outcomes_are_told_in_turn.ensures;
      turns = c.outcomes_are_told_in_turn_so_far.ensures;
      ended_marks = c.marked_banks_store_nothing.ensures.ended;
      marks = c.marked_banks_store_nothing.ensures.so_far;
      ended_rises = c.snapshots_never_fall.ensures;
      so_far_rises = c.snapshots_never_fall_so_far.ensures;
    }) _ _ _ c.stream_run.ensures.promises

pub returns-clause-waits : goal.returns-clause-waits
returns-clause-waits g c = waits-by-rows c.no_moment_loses_bytes.ensures _ _ _ _ c.stream_run.ensures.waits
