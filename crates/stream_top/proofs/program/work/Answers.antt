use Rattle.std.proofs.Common.{Err, refl}
use Rattle.std.specs.Prelude.{map, string_bytes}
use Rattle.stream_words.specs.Jobs.{stream_job_of}
use Rattle.program_calls.specs.Calls.{lent_sink}
use Rattle.stream_top.{specs.Calls.{lent_telling, source_between}, specs.Promises.Call, proofs.Keeping.{refused, refused-breaks, refused-others, refused-unread}}
use Rattle.stream_top.proofs.Waiting.{waits-asleep}
use Rattle.stream_top.proofs.program.work.Goals as goal

pub returns-in-Ok-clause-ends : goal.returns-in-Ok-clause-ends
returns-in-Ok-clause-ends g c = rw c.in-Ok.ensures.ok c.stream_on.ensures.ends

pub returns-in-Err-clause-ends : goal.returns-in-Err-clause-ends
returns-in-Err-clause-ends g c =
    let asked = stream_job_of (map string_bytes c.args.words.now) in
    let call : Call g.row.A.Denot g.row.V.Denot g.row.S.Denot g.row.K.Denot = record {
      asked = asked;
      array = lent_telling g.A.CellArray.state g.A.TellsCells.changes c.args.array.now c.args.array.now;
      wide = lent_telling g.V.CellArray.state g.V.TellsCells.changes c.args.wide.now c.args.wide.now;
      source = source_between g.S.Source.left g.S.Source.taken g.S.Source.faults c.args.source.now c.args.source.now;
      out = lent_sink g.K.Sink.written g.K.Sink.faults c.args.out.value c.args.out.value;
    } in
    record {
      done = tt;
      write = refused-breaks call asked c.in-Err.fault c.in-Err.ensures.err (Err c.in-Err.fault) refl;
      cause = λ other. refused call asked c.in-Err.fault c.in-Err.ensures.err (refl, refl);
      unread = refused-unread call asked refl;
      others = refused-others call asked refl refl;
    }

pub returns-in-Ok-clause-waits : goal.returns-in-Ok-clause-waits
returns-in-Ok-clause-waits g c = rw c.in-Ok.ensures.ok c.stream_on.ensures.waits

pub returns-in-Err-clause-waits : goal.returns-in-Err-clause-waits
returns-in-Err-clause-waits g c =
    waits-asleep (source_between g.S.Source.left g.S.Source.taken g.S.Source.faults c.args.source.now c.args.source.now) g.K.Sink.written (g.K.Sink.written c.args.out.value) (stream_job_of (map string_bytes c.args.words.now)) refl
