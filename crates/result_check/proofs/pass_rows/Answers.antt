use Rattle.std.proofs.Common.{◌≡◌, ◌-◌, suc, ◌∙◌, drop, reverse, take, Some, length, refl, sym, ap, arith}
use Rattle.std.{specs.Prelude.slice_get, proofs.lemmas.Option.slice_get_read}
use Rattle.trace_rows.specs.Rows.{rows_with, row_of}
use Rattle.result_check.{specs.Coming.coming_of, specs.Tables.IsRowOf, proofs.Finding.{rows_next, rows_length, outcome_there}}
use Rattle.result_check.proofs.{Going.{cuts_below, coming_length, coming_got, meets, goes_on, goes_no, goes_yes, next_cuts, usable, piece_sorted, piece_few}, Rows.one_of_every}
use Rattle.result_check.proofs.pass_rows.Goals as goal
use Rattle.trace_reader.proofs.Sizes.{event_fits, op_fits}
use Rattle.result_rows.proofs.Sizes.{outcome_fits}

pub cuts_with-cuts-requires : goal.cuts_with-cuts-requires
cuts_with-cuts-requires g c =
    let rows = rows_with c.args.events.now c.args.results.now in
    (op_fits g.row.B c.requires.small, cuts_below c.args.banks.now rows c.args.found.now c.loop-i.cuts c.requires.table.few c.requires.found c.loop-i.invariant.cuts_within)

pub cuts_behind-behind-requires : goal.cuts_behind-behind-requires
cuts_behind-behind-requires g c =
    let events = c.args.events.now in
    let banks = c.args.banks.now in
    let rules = c.args.rules.now in
    let found = c.args.found.now in
    let i = c.loop-i.i in
    let event = c.index-events-i.result in
    let at : slice_get events i ≡ Some event = slice_get_read events (length events) i event refl c.loop-i-test.true c.index-events-i.is in
    let rows = rows_with events c.args.results.now in
    let r = row_of event c.get-outcome.result.now in
    let here = rows_next events c.args.results.now i event c.get-outcome.result.now at (outcome_there c.args.results.now i c.get-outcome.result.now c.get-outcome.ensures) in
    let old = c.loop-i.kept in
    let inv = c.loop-i.invariant in
    let n = next_cuts rules banks rows c.requires.table found c.requires.found i r here c.loop-i.cuts old.banks.items old.joined old.lines.items inv c.cuts_with-cuts.result c.cuts_with-cuts.ensures in
    let le = n.1 in
    let same : length c.deref.result.now ≡ length found.cuts.items = ap length c.deref.ensures.value in
    omega (arith, le, same)

pub item-ahead-requires : goal.item-ahead-requires
item-ahead-requires g c =
    let events = c.args.events.now in
    let rows = rows_with events c.args.results.now in
    let long = rows_length events c.args.results.now c.requires.rows in
    let a = coming_length c.args.banks.now rows in
    let b : length c.args.coming.now ≡ length (coming_of c.args.banks.now rows) = ap length c.requires.coming in
    omega (arith, long, a, b, c.loop-i-test.true)

pub take-requires : goal.take-requires
take-requires g c =
    let events = c.args.events.now in
    let banks = c.args.banks.now in
    let rules = c.args.rules.now in
    let found = c.args.found.now in
    let i = c.loop-i.i in
    let event = c.index-events-i.result in
    let at : slice_get events i ≡ Some event = slice_get_read events (length events) i event refl c.loop-i-test.true c.index-events-i.is in
    let rows = rows_with events c.args.results.now in
    let r = row_of event c.get-outcome.result.now in
    let here = rows_next events c.args.results.now i event c.get-outcome.result.now at (outcome_there c.args.results.now i c.get-outcome.result.now c.get-outcome.ensures) in
    let old = c.loop-i.kept in
    let inv = c.loop-i.invariant in
    let piece = c.cuts_behind-behind.result.now in
    let piece_is : piece ≡ drop c.cuts_with-cuts.result found.cuts.items = c.cuts_behind-behind.ensures ∙ ap (drop c.cuts_with-cuts.result) c.deref.ensures.value in
    let long = rows_length events c.args.results.now c.requires.rows in
    let brings = coming_got banks rows i r here c.args.coming.now c.requires.coming (length events - 1 - i) c.item-ahead.result (omega (arith, long, c.loop-i-test.true)) c.item-ahead.ensures in
    let met = meets rules banks rows c.requires.table found c.requires.found i r here c.loop-i.cuts old.banks.items old.joined old.lines.items inv c.cuts_with-cuts.result piece c.item-ahead.result c.cuts_with-cuts.ensures piece_is brings in (
      omega arith,
      (
        event_fits g.row.B c.requires.small,
        (
          outcome_fits g.row.B c.requires.small,
          (
            c.requires.small,
            (
              c.requires.within,
              (
                (one_of_every (IsRowOf (length banks)) rows i r _ here c.requires.table.each).line,
                (
                  inv.exist,
                  (
                    inv.size,
                    (
                      usable banks rows found c.requires.table.few c.requires.found,
                      (
                        piece_sorted banks rows found c.cuts_with-cuts.result piece c.requires.table.rises c.requires.found piece_is,
                        (piece_few banks rows found c.cuts_with-cuts.result piece c.requires.table.few c.requires.found piece_is, (reverse (take i rows), drop (suc i) rows, met)),
                      ),
                    ),
                  ),
                ),
              ),
            ),
          ),
        ),
      ),
    )

pub returns-in-Some : goal.returns-in-Some
returns-in-Some g c =
    let events = c.args.events.now in
    let banks = c.args.banks.now in
    let rules = c.args.rules.now in
    let found = c.args.found.now in
    let i = c.loop-i.i in
    let event = c.index-events-i.result in
    let at : slice_get events i ≡ Some event = slice_get_read events (length events) i event refl c.loop-i-test.true c.index-events-i.is in
    let rows = rows_with events c.args.results.now in
    let r = row_of event c.get-outcome.result.now in
    let here = rows_next events c.args.results.now i event c.get-outcome.result.now at (outcome_there c.args.results.now i c.get-outcome.result.now c.get-outcome.ensures) in
    let old = c.loop-i.kept in
    let inv = c.loop-i.invariant in
    let piece = c.cuts_behind-behind.result.now in
    let piece_is : piece ≡ drop c.cuts_with-cuts.result found.cuts.items = c.cuts_behind-behind.ensures ∙ ap (drop c.cuts_with-cuts.result) c.deref.ensures.value in
    let long = rows_length events c.args.results.now c.requires.rows in
    let brings = coming_got banks rows i r here c.args.coming.now c.requires.coming (length events - 1 - i) c.item-ahead.result (omega (arith, long, c.loop-i-test.true)) c.item-ahead.ensures in
    let met = meets rules banks rows c.requires.table found c.requires.found i r here c.loop-i.cuts old.banks.items old.joined old.lines.items inv c.cuts_with-cuts.result piece c.item-ahead.result c.cuts_with-cuts.ensures piece_is brings in
    let p = c.in_ok-broken.ensures.passes (reverse (take i rows)) (drop (suc i) rows) met in
    record { exact = goes_no rules banks rows c.requires.table found c.requires.found i r here c.loop-i.cuts old.banks.items old.joined old.lines.items inv c.in-Some.rule (sym c.in-Some.is ∙ p.told) }

pub loop-i-preserved : goal.loop-i-preserved
loop-i-preserved g c =
    let events = c.args.events.now in
    let banks = c.args.banks.now in
    let rules = c.args.rules.now in
    let found = c.args.found.now in
    let i = c.loop-i.i in
    let event = c.index-events-i.result in
    let at : slice_get events i ≡ Some event = slice_get_read events (length events) i event refl c.loop-i-test.true c.index-events-i.is in
    let rows = rows_with events c.args.results.now in
    let r = row_of event c.get-outcome.result.now in
    let here = rows_next events c.args.results.now i event c.get-outcome.result.now at (outcome_there c.args.results.now i c.get-outcome.result.now c.get-outcome.ensures) in
    let old = c.loop-i.kept in
    let inv = c.loop-i.invariant in
    let piece = c.cuts_behind-behind.result.now in
    let piece_is : piece ≡ drop c.cuts_with-cuts.result found.cuts.items = c.cuts_behind-behind.ensures ∙ ap (drop c.cuts_with-cuts.result) c.deref.ensures.value in
    let long = rows_length events c.args.results.now c.requires.rows in
    let brings = coming_got banks rows i r here c.args.coming.now c.requires.coming (length events - 1 - i) c.item-ahead.result (omega (arith, long, c.loop-i-test.true)) c.item-ahead.ensures in
    let met = meets rules banks rows c.requires.table found c.requires.found i r here c.loop-i.cuts old.banks.items old.joined old.lines.items inv c.cuts_with-cuts.result piece c.item-ahead.result c.cuts_with-cuts.ensures piece_is brings in
    let p = c.in_ok-broken.ensures.passes (reverse (take i rows)) (drop (suc i) rows) met in
    goes_on rules banks rows c.requires.table found c.requires.found i r here c.loop-i.cuts old.banks.items old.joined old.lines.items inv c.cuts_with-cuts.result c.in_ok-broken.broken
    c.take.new.self.banks.items c.take.new.self.joined c.take.new.self.lines.items c.cuts_with-cuts.ensures p c.in_default.is c.in_ok-broken.ensures.number c.in_ok-broken.ensures.lines

pub returns : goal.returns
returns g c =
    let rows = rows_with c.args.events.now c.args.results.now in
    let long = rows_length c.args.events.now c.args.results.now c.requires.rows in
    let k = c.loop-i.kept in
    record { exact = goes_yes c.args.rules.now c.args.banks.now rows c.loop-i.i c.args.found.now c.loop-i.cuts k.banks.items k.joined k.lines.items (omega (arith, long, c.loop-i-test.false)) c.loop-i.invariant }
