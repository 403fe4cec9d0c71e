use Rattle.std.proofs.Common.{◌++◌, ap, codes, ◌∙◌}
use Rattle.std.proofs.lemmas.Result.{IfOk-weaker}
use Rattle.verdict_text.proofs.Lines.{write_said}
use Rattle.verdict_text.proofs.right_writes.say_right_write.Goals as goal

pub returns : goal.returns
returns g c =
    IfOk-weaker c.say.result _ _
    (λ _ is. write_said c.args.w.now c.args.tick c.args.read _ _ _ c.in_ok-say_unless_worn.ensures (is ∙ ap (λ text. text ++ codes "\n") c.in_ok-say_number.ensures)) c.say.ensures
