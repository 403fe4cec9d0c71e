use Rattle.std.proofs.Common.{List, ℕ, [], ◌∷◌, refl, subst, ◌∙◌, arith}
use Rattle.std.specs.Io.KnownBytes.{Appends}
use Rattle.pcm_io.specs.Giving.{AppendsPrefix}
use Rattle.disk_server.proofs.Messages.{ends_at, has_begun, more_at, not_begun}
use Rattle.disk_server.proofs.session.serve.Goals as goal

pub returns-in_default-clause-session : goal.returns-in_default-clause-session
returns-in_default-clause-session g c =
    not_begun g.row.B c.args.disk.now.layout c.args.on_cut _ _ refl refl refl refl
    (subst (λ (bytes : List ℕ). AppendsPrefix (g.K.Sink.written c.args.sink.now) (g.K.Sink.written c.write_all.new.sink) bytes) c.greet.ensures c.in_default.ensures.prefix)
    c.in_default.ensures.fault

pub loop-message-init : goal.loop-message-init
loop-message-init g c = record {
  so_far = (
    [],
    has_begun g.row.B c.args.disk.now.layout c.args.on_cut _ _ refl refl refl refl
        (subst (λ (bytes : List ℕ). Appends (g.K.Sink.written c.args.sink.now) (g.K.Sink.written c.write_all.new.sink) bytes) c.greet.ensures c.in-Ok.ensures.ok)
        (omega arith) c.write_all.ensures.never_falls,
    refl,
    refl,
  );
  ready = c.requires.ready;
  layout = refl;
  kind = refl;
}

pub returns-in-Err-clause-session : goal.returns-in-Err-clause-session
returns-in-Err-clause-session g c =
    let so_far = c.loop-message.invariant.so_far in
    ends_at g.row.B c.args.disk.now.layout c.args.on_cut _ _ _ so_far.0 so_far.1 c.loop-message.disk.layout c.loop-message.phase c.loop-message.invariant.layout so_far.2
    c.in-Err.ended c.in-Err.ensures.stops

pub loop-message-preserved : goal.loop-message-preserved
loop-message-preserved g c =
    let so_far = c.loop-message.invariant.so_far in
    let more = more_at g.row.B c.args.disk.now.layout c.args.on_cut _ _ _ so_far.0 so_far.1 c.loop-message.disk.layout c.loop-message.phase c.loop-message.invariant.layout so_far.2
    c.in-Ok-step.next c.in-Ok-step.ensures.answers c.step.ensures.read_faults c.step.ensures.write_faults in
    record {
      so_far = (more.0 ∷ so_far.0, more.1, more.2, omega (arith, so_far.3));
      ready = c.step.ensures.ready;
      layout = c.step.ensures.layout ∙ c.loop-message.invariant.layout;
      kind = c.step.ensures.kind ∙ c.loop-message.invariant.kind;
    }
