use Rattle.std.proofs.Common.{◌≡◌, ◌-◌, Some, length, refl}
use Rattle.std.{specs.Prelude.slice_get, proofs.lemmas.Option.slice_get_read}
use Rattle.verdict_telling.proofs.Sizes.{outcome_fits, results_fit}
use Rattle.explain_top.proofs.Rows.{has_row, index_below, index_most, says_unearned}
use Rattle.explain_top.proofs.text.say_unearned_row.Goals as goal

pub overflow_sub-at : goal.overflow_sub-at
overflow_sub-at g c = c.requires.some

pub offset_bounds-events-at : goal.offset_bounds-events-at
offset_bounds-events-at g c = index_most c.args.row (length c.args.events.now) (c.requires.some, c.requires.within)

pub bounds-events-at : goal.bounds-events-at
bounds-events-at g c = index_below c.args.row (length c.args.events.now) (c.requires.some, c.requires.within)

pub get-outcome-requires : goal.get-outcome-requires
get-outcome-requires g c = (
  results_fit,
  (outcome_fits g.row.B c.requires.size, has_row c.args.results.now c.args.row (length c.args.events.now) c.requires.one_each (c.requires.some, c.requires.within)),
)

pub returns : goal.returns
returns g c =
    let row = c.args.row in
    let events = c.args.events.now in
    let event = c.index-events-at.result in
    let at : slice_get events (row - 1) ≡ Some event
    = slice_get_read events (length events) (row - 1) event refl (index_below row (length events) (c.requires.some, c.requires.within)) c.index-events-at.is in (
      refl,
      says_unearned c.args.banks.now events c.args.results.now row event c.get-outcome.result.now c.in_ok-text.text.items _ c.bank_asked-bank.result at c.get-outcome.ensures
          c.in_ok-text.ensures c.bank_asked-bank.ensures c.in_ok-say_unearned.ensures,
    )
