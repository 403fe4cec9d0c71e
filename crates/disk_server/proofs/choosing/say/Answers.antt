use Rattle.std.proofs.Common.{List, ℕ, ◌++◌, subst}
use Rattle.std.specs.Prelude.{OnErr}
use Rattle.pcm_io.specs.Giving.{AppendsPrefix}
use Rattle.disk_server.proofs.choosing.say.Goals as goal

pub returns-clause-prefix : goal.returns-clause-prefix
returns-clause-prefix g c =
    let was = g.K.Sink.written c.args.sink.now in
    let now = g.K.Sink.written c.write_both.new.sink in
    subst (λ (front : List ℕ). OnErr c.write_both.result (AppendsPrefix was now (front ++ c.args.bytes.now)))
    c.reply_front.ensures c.write_both.ensures.prefix
