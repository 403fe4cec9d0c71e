use Rattle.std.proofs.Common.{sym, ◌∙◌, subst}
use Rattle.trace_reader.proofs.Sizes.{event_fits}
use Rattle.check_telling.proofs.Sizes.{row_fits}
use Rattle.verdict_telling.{specs.Explained.TellsOf, proofs.Named.is_told, proofs.Sizes.{explanation_fits, results_fit}, proofs.Telling.explains_it}
use Rattle.verdict_telling.proofs.explain.Goals as goal

pub table-requires : goal.table-requires
table-requires g c = (
  event_fits g.row.B c.requires.small,
  (results_fit, (row_fits g.row.B c.requires.small, (c.requires.small, (c.requires.checkable.few, c.requires.checkable.rows)))),
)

pub explain_row-requires : goal.explain_row-requires
explain_row-requires g c = (
  row_fits g.row.B c.requires.small,
  (
    explanation_fits g.row.B c.requires.small,
    (
      c.requires.small,
      is_told c.args.events.now c.args.results.now c.args.banks.now c.args.rules.now c.in-No.row c.in-No.rule c.deref.result.now (c.deref.ensures.value ∙ c.in_ok-rows-in-No.ensures)
          c.requires.checkable (sym c.in_ok-check.ensures.exact ∙ c.in-No.is),
    ),
  ),
)

pub returns-in_ok-told-in-No : goal.returns-in_ok-told-in-No
returns-in_ok-told-in-No g c =
    explains_it c.args.rules.now c.args.banks.now _ c.in-No.row c.in-No.rule c.in_ok-told-in-No.told (sym c.in_ok-check.ensures.exact ∙ c.in-No.is)
    (
    subst (λ xs. TellsOf c.args.rules.now c.args.banks.now xs c.in-No.row c.in-No.rule c.in_ok-told-in-No.told) (c.deref.ensures.value ∙ c.in_ok-rows-in-No.ensures)
    c.in_ok-told-in-No.ensures
    )
