use Rattle.std.proofs.Common.{List, ap, arith, drop, subst, rules, ◌∙◌}
use Rattle.std.proofs.lemmas.Grind.{common_steps}
use Rattle.trace_reader.specs.declared.event.Event.{Event}
use Rattle.trace_rows.specs.Rows.{rows_with}
use Rattle.right_runs.specs.Banks.{banks_of, rules_in}
use Rattle.check_reader.specs.ResultRows.{AreResults}
use Rattle.check_text.specs.Checked.{asks_in}
use Rattle.check_verdict.specs.Verdicts.{verdict_of}
use Rattle.explain_top.specs.Explained.{SaysVerdict, judged}
use Rattle.explain_top.proofs.text.explain_text.Goals as goal

pub returns-clause-made : goal.returns-clause-made
returns-clause-made g c =
    let bound = rules_in g.row.E c.args.shape.now 0 in
    let banks = banks_of c.args.shape.now c.args.seed in
    let outcomes = c.in_ok-results.results in
    let checked = c.in_ok-made.ensures.checked in
    record {
      checked = checked;
      has = record {
        at = c.find_results-at.result;
        events = c.in_ok-events.events.items;
        trace = search rules;
        outcomes = outcomes;
        results =
            subst (λ (xs : List (Event g.row.B)). AreResults (asks_in xs) (drop c.find_results-at.result c.args.bytes.now) outcomes) c.as_slice.ensures.value
            (first_of (search rules, grind (arith, common_steps)));
        is = c.in_ok-made.ensures.is ∙ ap (λ (xs : List (Event g.row.B)). verdict_of bound banks (rows_with xs outcomes)) c.as_slice-2.ensures.value;
      };
      judged_is = c.in_ok-made.ensures.judged_is ∙ ap (λ (xs : List (Event g.row.B)). judged c.args.strict banks (rows_with xs outcomes) checked) c.as_slice-2.ensures.value;
      says =
          subst (λ (xs : List (Event g.row.B)). SaysVerdict bound banks xs outcomes checked c.in_ok-made.made.verdict c.in_ok-made.made.text.items) c.as_slice-2.ensures.value
          c.in_ok-made.ensures.says;
    }
