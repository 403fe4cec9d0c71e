use Rattle.std.proofs.Common.{◌≡◌, ℕ, List, subst}
use Rattle.std.specs.Prelude.{IfOk}
use Rattle.verdict_text.specs.Explained.{why_on}
use Rattle.verdict_text.proofs.explained.say_explanation.Goals as goal

pub returns : goal.returns
returns g c =
    subst
    (λ (text : List ℕ). IfOk c.say_why.result
    (λ _. c.say_why.new.text.items ≡ why_on c.args.rules.now c.args.events.now c.args.results.now c.args.event.now.tick c.args.e.now text))
    c.in_ok-say_row.ensures c.say_why.ensures
