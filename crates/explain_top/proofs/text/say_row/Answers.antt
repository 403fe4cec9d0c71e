use Rattle.std.proofs.Common.{◌≡◌, ◌-◌, Some, length, refl}
use Rattle.std.{specs.Prelude.slice_get, proofs.lemmas.Option.slice_get_read}
use Rattle.verdict_telling.proofs.Sizes.{outcome_fits, results_fit}
use Rattle.explain_top.proofs.Rows.{has_row, index_below, index_most, row_within, says_row}
use Rattle.explain_top.proofs.text.say_row.Goals as goal

pub overflow_sub-event : goal.overflow_sub-event
overflow_sub-event g c =
    (row_within c.args.rules.now c.args.banks.now c.args.events.now c.args.results.now c.args.told.now.row c.args.told.now.rule c.requires.one_each c.requires.tells.0).0

pub offset_bounds-events-row : goal.offset_bounds-events-row
offset_bounds-events-row g c =
    index_most c.args.told.now.row (length c.args.events.now)
    (row_within c.args.rules.now c.args.banks.now c.args.events.now c.args.results.now c.args.told.now.row c.args.told.now.rule c.requires.one_each c.requires.tells.0)

pub bounds-events-row : goal.bounds-events-row
bounds-events-row g c =
    index_below c.args.told.now.row (length c.args.events.now)
    (row_within c.args.rules.now c.args.banks.now c.args.events.now c.args.results.now c.args.told.now.row c.args.told.now.rule c.requires.one_each c.requires.tells.0)

pub get-outcome-requires : goal.get-outcome-requires
get-outcome-requires g c = (
  results_fit,
  (
    outcome_fits g.row.B c.requires.size,
    has_row c.args.results.now c.args.told.now.row (length c.args.events.now) c.requires.one_each
        (row_within c.args.rules.now c.args.banks.now c.args.events.now c.args.results.now c.args.told.now.row c.args.told.now.rule c.requires.one_each c.requires.tells.0),
  ),
)

pub returns : goal.returns
returns g c =
    let row = c.args.told.now.row in
    let events = c.args.events.now in
    let event = c.index-events-row.result in
    let within = row_within c.args.rules.now c.args.banks.now events c.args.results.now row c.args.told.now.rule c.requires.one_each c.requires.tells.0 in
    let at : slice_get events (row - 1) ≡ Some event = slice_get_read events (length events) (row - 1) event refl (index_below row (length events) within) c.index-events-row.is in (
      refl,
      says_row c.args.rules.now c.args.banks.now events c.args.results.now row c.args.told.now.rule event c.get-outcome.result.now c.args.told.now c.in_ok-text.text.items _ c.bank_asked-bank.result
          at c.get-outcome.ensures c.requires.tells.1 c.in_ok-text.ensures c.bank_asked-bank.ensures c.in_ok-say_explanation.ensures,
    )
