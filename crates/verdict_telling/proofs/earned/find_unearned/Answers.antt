use Rattle.std.proofs.Common.{◌≡◌, ◌+◌, ◌||◌, ◌∙◌, not, drop, length, Some, refl, sym, ap, subst, true, false}
use Rattle.std.{specs.Prelude.slice_get, proofs.lemmas.Option.slice_get_read}
use Rattle.row_rules.specs.{Rows.line_of, Wearing.worn_row}
use Rattle.trace_rows.specs.Rows.{rows_with}
use Rattle.check_verdict.specs.Verdicts.{bank_in}
use Rattle.check_telling.proofs.Sizes.{row_fits}
use Rattle.verdict_telling.{specs.Earned.has_bank, proofs.Earning.{Passed, few_rows, found_none, found_one, of_lines, passed_more, row_here}, proofs.Tables.none_left}
use Rattle.verdict_telling.proofs.earned.find_unearned.Goals as goal

pub is_earned-requires : goal.is_earned-requires
is_earned-requires g c =
    let events = c.args.events.now in
    let event = c.index-events-i.result in
    let at : slice_get events c.loop-i.i ≡ Some event = slice_get_read events (length events) c.loop-i.i event refl c.loop-i-test.true c.index-events-i.is in
    let here = row_here events c.args.results.now c.loop-i.i event c.get.result.now c.row_of-row.result at c.get.ensures c.row_of-row.ensures in
    (row_fits g.row.B c.requires.small, of_lines (length c.args.banks.now) events c.args.results.now c.loop-i.i c.row_of-row.result _ c.requires.events here)

pub add_taken-requires : goal.add_taken-requires
add_taken-requires g c =
    let events = c.args.events.now in
    let event = c.index-events-i.result in
    let at : slice_get events c.loop-i.i ≡ Some event = slice_get_read events (length events) c.loop-i.i event refl c.loop-i-test.true c.index-events-i.is in
    let here = row_here events c.args.results.now c.loop-i.i event c.get.result.now c.row_of-row.result at c.get.ensures c.row_of-row.ensures in
    (row_fits g.row.B c.requires.small, of_lines (length c.args.banks.now) events c.args.results.now c.loop-i.i c.row_of-row.result _ c.requires.events here)

pub returns-then-not-is_earned-clause-exact : goal.returns-then-not-is_earned-clause-exact
returns-then-not-is_earned-clause-exact g c =
    let events = c.args.events.now in
    let banks = c.args.banks.now in
    let event = c.index-events-i.result in
    let row = c.row_of-row.result in
    let rows = rows_with events c.args.results.now in
    let at : slice_get events c.loop-i.i ≡ Some event = slice_get_read events (length events) c.loop-i.i event refl c.loop-i-test.true c.index-events-i.is in
    let here = row_here events c.args.results.now c.loop-i.i event c.get.result.now row at c.get.ensures c.row_of-row.ensures in
    let bad : (not (worn_row row) || has_bank (bank_in banks (line_of row.asks)) c.loop-i.some.items) ≡ false
    = ap (λ xs. not (worn_row row) || has_bank (bank_in banks (line_of row.asks)) xs) (sym c.as_slice.ensures.value) ∙ sym c.is_earned.ensures ∙ c.if-not-is_earned.true in
    found_one banks rows (c.loop-i.i + 1) row (drop (c.loop-i.i + 1) rows) c.loop-i.some.items (subst (λ xs. Passed banks rows (c.loop-i.i + 1) xs c.loop-i.some.items) here c.loop-i.invariant) bad

pub loop-i-preserved : goal.loop-i-preserved
loop-i-preserved g c =
    let events = c.args.events.now in
    let banks = c.args.banks.now in
    let event = c.index-events-i.result in
    let row = c.row_of-row.result in
    let rows = rows_with events c.args.results.now in
    let at : slice_get events c.loop-i.i ≡ Some event = slice_get_read events (length events) c.loop-i.i event refl c.loop-i-test.true c.index-events-i.is in
    let here = row_here events c.args.results.now c.loop-i.i event c.get.result.now row at c.get.ensures c.row_of-row.ensures in
    let good : (not (worn_row row) || has_bank (bank_in banks (line_of row.asks)) c.loop-i.some.items) ≡ true
    = ap (λ xs. not (worn_row row) || has_bank (bank_in banks (line_of row.asks)) xs) (sym c.as_slice.ensures.value) ∙ sym c.is_earned.ensures ∙ c.if-not-is_earned.false in
    passed_more banks rows (c.loop-i.i + 1) row (drop (c.loop-i.i + 1) rows) c.loop-i.some.items c.add_taken.new.some.items
    (subst (λ xs. Passed banks rows (c.loop-i.i + 1) xs c.loop-i.some.items) here c.loop-i.invariant) good c.in_ok-add_taken.ensures

pub returns-clause-exact : goal.returns-clause-exact
returns-clause-exact g c =
    let rows = rows_with c.args.events.now c.args.results.now in
    found_none c.args.banks.now rows (c.loop-i.i + 1) (drop c.loop-i.i rows) c.loop-i.some.items c.loop-i.invariant (none_left c.loop-i.i rows (few_rows c.args.events.now c.args.results.now c.loop-i.i c.requires.rows c.loop-i-test.false))
