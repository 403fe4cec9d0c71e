use Rattle.std.proofs.Common.{◌≡◌, ◌-◌, Some, length, refl, arith}
use Rattle.std.{specs.Prelude.slice_get, proofs.lemmas.Option.slice_get_read}
use Rattle.trace_rows.specs.Rows.{rows_with, row_of}
use Rattle.result_check.{specs.Tables.IsRowOf, proofs.Coming.{looks_none, looks_more}, proofs.Finding.{rows_next, rows_length}, proofs.Rows.one_of_every}
use Rattle.result_check.proofs.ahead.look_ahead.Goals as goal
use Rattle.trace_reader.proofs.Sizes.{event_fits, op_fits}
use Rattle.result_rows.proofs.Sizes.{outcome_fits}

pub loop-row-init : goal.loop-row-init
loop-row-init g c =
    let long = rows_length c.args.events.now c.args.results.now c.requires.rows in
    looks_none c.args.banks.now (rows_with c.args.events.now c.args.results.now) (length c.args.events.now) _ _ _ _ (omega (arith, long))
    c.in_ok-none_yet.ensures c.in_ok-none_yet-2.ensures c.in_ok-none_yet-3.ensures c.new-coming.ensures.items

pub at-requires : goal.at-requires
at-requires g c =
    let events = c.args.events.now in
    let event = c.index-events-row.result in
    let le = c.loop-row.invariant.within in
    let i = c.loop-row.row - 1 in
    let at : slice_get events i ≡ Some event = slice_get_read events (length events) i event refl (omega (arith, le, c.loop-row-test.true)) c.index-events-row.is in
    let next = rows_next events c.args.results.now i event c.get-outcome.result.now at c.get-outcome.ensures in
    let o = c.loop-row.invariant.outlook in (
      op_fits g.row.B c.requires.small,
      (
        (one_of_every (IsRowOf (length c.args.banks.now)) (rows_with events c.args.results.now) i (row_of event c.get-outcome.result.now) _ next c.requires.table.each).line,
        (o.next_size, (o.soonest_size, o.worn_size)),
      ),
    )

pub add-requires : goal.add-requires
add-requires g c =
    let events = c.args.events.now in
    let event = c.index-events-row.result in
    let le = c.loop-row.invariant.within in
    let i = c.loop-row.row - 1 in
    let at : slice_get events i ≡ Some event = slice_get_read events (length events) i event refl (omega (arith, le, c.loop-row-test.true)) c.index-events-row.is in
    let next = rows_next events c.args.results.now i event c.get-outcome.result.now at c.get-outcome.ensures in
    let o = c.loop-row.invariant.outlook in (
      event_fits g.row.B c.requires.small,
      (
        outcome_fits g.row.B c.requires.small,
        (
          (one_of_every (IsRowOf (length c.args.banks.now)) (rows_with events c.args.results.now) i (row_of event c.get-outcome.result.now) _ next c.requires.table.each).line,
          (o.next_size, (o.soonest_size, o.worn_size)),
        ),
      ),
    )

pub loop-row-preserved : goal.loop-row-preserved
loop-row-preserved g c =
    let events = c.args.events.now in
    let event = c.index-events-row.result in
    let le = c.loop-row.invariant.within in
    let i = c.loop-row.row - 1 in
    let at : slice_get events i ≡ Some event = slice_get_read events (length events) i event refl (omega (arith, le, c.loop-row-test.true)) c.index-events-row.is in
    let next = rows_next events c.args.results.now i event c.get-outcome.result.now at c.get-outcome.ensures in
    looks_more c.args.banks.now (rows_with events c.args.results.now) c.loop-row.row (length events) (row_of event c.get-outcome.result.now) _ _ _ _ _ _ _ _ c.at.result
    (omega (arith, c.loop-row-test.true)) next c.loop-row.invariant c.at.ensures c.add.ensures c.in_ok-push.ensures.items
