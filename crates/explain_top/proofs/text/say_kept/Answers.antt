use Rattle.std.proofs.Common.{sym, ◌∙◌}
use Rattle.std.proofs.lemmas.Result.{IfOk-weaker}
use Rattle.explain_top.proofs.Rows.{kept_row}
use Rattle.explain_top.proofs.text.say_kept.Goals as goal

pub returns-in-Some : goal.returns-in-Some
returns-in-Some g c =
    IfOk-weaker c.say_unearned_row.result _ _
    (λ made is. kept_row c.args.strict c.args.banks.now c.args.events.now c.args.results.now c.in-Some.row made.verdict made.text.items
    (sym c.in-Some.is ∙ c.in_ok-find_asked.ensures.exact) is.0 is.1) c.say_unearned_row.ensures
