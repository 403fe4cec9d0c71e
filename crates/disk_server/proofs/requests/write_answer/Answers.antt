use Rattle.std.proofs.Common.{◌≡◌, ℕ, List, ◌++◌, ap, ◌∙◌, subst}
use Rattle.std.specs.Prelude.{Option}
use Rattle.nbd_frames.specs.{Requests.reply_bytes, declared.replies.Failure.Failure}
use Rattle.disk_server.{specs.Answering.WritesOr, specs.Exchanges.{bytes_of, failure_of}, proofs.Moving.writes_or}
use Rattle.disk_server.proofs.requests.write_answer.Goals as goal

pub returns-clause-written : goal.returns-clause-written
returns-clause-written g c =
    let was = g.K.Sink.written c.args.sink.now in
    let now = g.K.Sink.written c.write_both.new.sink in
    let front : c.reply-front.result ≡ reply_bytes (failure_of c.args.request.now c.args.answer.now) c.args.cookie =
    c.reply-front.ensures ∙ ap (λ (f : Option Failure). reply_bytes f c.args.cookie) c.failure_of.ensures in
    subst (λ (f : List ℕ). WritesOr c.write_both.result was now (f ++ bytes_of c.args.answer.now)) front
    (subst (λ (b : List ℕ). WritesOr c.write_both.result was now (c.reply-front.result ++ b)) c.bytes_of.ensures
    (writes_or c.write_both.result was now (c.reply-front.result ++ c.bytes_of.result.now) c.write_both.ensures.ok c.write_both.ensures.prefix))
