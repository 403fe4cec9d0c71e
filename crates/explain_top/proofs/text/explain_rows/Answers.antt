use Rattle.std.proofs.Common.{ℕ, List, Option, Some, sym, subst, ◌∙◌}
use Rattle.std.proofs.lemmas.Result.{IfOk-weaker}
use Rattle.trace_reader.proofs.Sizes.{event_fits}
use Rattle.trace_rows.specs.Rows.{rows_with}
use Rattle.check_text.proofs.Judged.{checkable}
use Rattle.verdict_telling.{specs.Explained.Explains, specs.declared.row.Explanation.Explanation, proofs.Sizes.{explanation_fits, results_fit}}
use Rattle.explain_top.proofs.Rows.{told_kept, told_row}
use Rattle.explain_top.proofs.text.explain_rows.Goals as goal

pub explain-requires : goal.explain-requires
explain-requires g c = (
  event_fits g.row.B c.requires.size,
  (
    results_fit,
    (
      explanation_fits g.row.B c.requires.size,
      (
        c.requires.size,
        checkable c.args.shape.now c.args.seed c.args.events.now c.args.results.now c.as_slice.result.now c.rules-rules.result (c.as_slice.ensures.value ∙ c.in_ok-banks.ensures)
            c.rules-rules.ensures.within c.requires.events c.requires.rows c.requires.one_each c.requires.may_stand,
      ),
    ),
  ),
)

pub say_row-requires : goal.say_row-requires
say_row-requires g c =
    let rows = rows_with c.args.events.now c.args.results.now in (
      event_fits g.row.B c.requires.size,
      (
        results_fit,
        (
          explanation_fits g.row.B c.requires.size,
          (
            c.requires.size,
            (
              c.requires.one_each,
              subst (λ (xs : List ℕ). Explains c.rules-rules.result xs rows (Some c.in-Some.told)) (c.as_slice.ensures.value ∙ sym c.as_slice-in-Some.ensures.value)
                  (subst (λ (found : Option (Explanation g.row.B)). Explains c.rules-rules.result c.as_slice.result.now rows found) c.in-Some.is c.in_ok-explain.ensures),
            ),
          ),
        ),
      ),
    )

pub say_kept-requires : goal.say_kept-requires
say_kept-requires g c = (
  event_fits g.row.B c.requires.size,
  (
    results_fit,
    (
      c.requires.size,
      (
        (checkable c.args.shape.now c.args.seed c.args.events.now c.args.results.now c.as_slice-in-None.result.now c.rules-rules.result (c.as_slice-in-None.ensures.value ∙ c.in_ok-banks.ensures)
            c.rules-rules.ensures.within c.requires.events c.requires.rows c.requires.one_each c.requires.may_stand).lawful,
        (c.requires.rows, c.requires.one_each),
      ),
    ),
  ),
)

pub returns-in-None : goal.returns-in-None
returns-in-None g c =
    IfOk-weaker c.say_kept.result _ _
    (λ made is. told_kept c.rules-rules.result _ _ c.as_slice.result.now c.as_slice-in-None.result.now c.args.events.now c.args.results.now c.args.strict made.verdict made.text.items
    c.rules-rules.ensures.exact (c.as_slice.ensures.value ∙ c.in_ok-banks.ensures) (c.as_slice-in-None.ensures.value ∙ c.in_ok-banks.ensures)
    (subst (λ (found : Option (Explanation g.row.B)). Explains c.rules-rules.result c.as_slice.result.now (rows_with c.args.events.now c.args.results.now) found) c.in-None.is c.in_ok-explain.ensures) is)
    c.say_kept.ensures

pub returns : goal.returns
returns g c =
    IfOk-weaker c.say_row.result _ _
    (λ made is. told_row c.rules-rules.result _ _ c.as_slice.result.now c.as_slice-in-Some.result.now c.args.events.now c.args.results.now c.args.strict c.in-Some.told.row c.in-Some.told.rule
    made.verdict made.text.items
    c.rules-rules.ensures.exact (c.as_slice.ensures.value ∙ c.in_ok-banks.ensures) (c.as_slice-in-Some.ensures.value ∙ c.in_ok-banks.ensures)
    (subst (λ (found : Option (Explanation g.row.B)). Explains c.rules-rules.result c.as_slice.result.now (rows_with c.args.events.now c.args.results.now) found) c.in-Some.is c.in_ok-explain.ensures).0 is)
    c.say_row.ensures
