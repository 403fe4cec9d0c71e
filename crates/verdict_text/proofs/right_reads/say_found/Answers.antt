use Rattle.std.proofs.lemmas.Result.{IfOk-weaker}
use Rattle.verdict_text.proofs.Lines.{read_said}
use Rattle.verdict_text.proofs.right_reads.say_found.Goals as goal

pub returns : goal.returns
returns g c =
    IfOk-weaker c.say_if_forwarded.result _ _
    (λ _ is. read_said c.args.g.now c.args.tick _ _ _ _ _ c.in_ok-say_if_read.ensures c.in_ok-say_if_lost.ensures c.in_ok-say_if_busy.ensures is) c.say_if_forwarded.ensures
