use Rattle.std.proofs.Common.{◌++◌, ap, codes, ◌∙◌}
use Rattle.std.proofs.lemmas.Result.{IfOk-weaker}
use Rattle.verdict_text.proofs.Lines.{taken_said}
use Rattle.verdict_text.proofs.right_writes.say_taken.Goals as goal

pub returns : goal.returns
returns g c =
    IfOk-weaker c.say_if_full.result _ _
    (λ _ is. taken_said c.args.w.now c.args.tick c.args.read _ _ _ _ _ c.in_ok-say_stored.ensures c.in_ok-say_merged.ensures
    (c.in_ok-say.ensures ∙ ap (λ text. text ++ codes "\n") c.in_ok-say_number.ensures) is) c.say_if_full.ensures
