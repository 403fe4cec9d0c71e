use Rattle.std.proofs.Common.{ℕ, List, subst}
use Rattle.std.specs.Prelude.{Result, Ok, Err}
use Rattle.atomic_sectors.proofs.Stopping.{rose-none}
use Rattle.disk_rules.specs.declared.DiskRequest.{DiskRequest}
use Rattle.nbd_frames.specs.declared.replies.Failure.{Failure}
use Rattle.disk_server.{specs.Answering.WritesOr, specs.Exchanges.Brings, proofs.Moving.writes_or}
use Rattle.disk_server.proofs.requests.answer_request.Goals as goal

pub returns-in-Ok-clause-answered : goal.returns-in-Ok-clause-answered
returns-in-Ok-clause-answered g c =
    let asked = c.ask-answer.ensures.asked in
    let header = c.args.received.now.header in
    record {
      became = Ok (record { request = c.in-Ok.request; cuts = asked.cuts; answer = c.ask-answer.result });
      becomes = λ bytes brings. (subst (λ (r : Result DiskRequest Failure). Brings header bytes r) c.in-Ok.is brings, asked.rides);
      answers = asked.answers;
      stops = asked.stops;
      writes = c.write_answer.ensures.written;
    }

pub returns-in-Err-clause-answered : goal.returns-in-Err-clause-answered
returns-in-Err-clause-answered g c =
    let header = c.args.received.now.header in
    let was = g.K.Sink.written c.args.sink.now in
    let now = g.K.Sink.written c.write_all.new.sink in
    record {
      became = Err c.in-Err.failure;
      becomes = λ bytes brings. subst (λ (r : Result DiskRequest Failure). Brings header bytes r) c.in-Err.is brings;
      answers = λ earlier served. served;
      stops = rose-none (g.L.Lines.stops c.args.lines.now);
      writes = subst (λ (b : List ℕ). WritesOr c.write_all.result was now b) c.reply.ensures
          (writes_or c.write_all.result was now c.reply.result c.write_all.ensures.ok c.write_all.ensures.prefix);
    }
