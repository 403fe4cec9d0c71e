use Rattle.std.proofs.Common.{◌≡◌, ℕ, List, [], ◌++◌, length, sym, subst, ◌∙◌}
use Rattle.std.specs.Io.KnownBytes.{Appends}
use Rattle.pcm_io.specs.Giving.{AppendsPrefix}
use Rattle.nbd_frames.specs.{Numbers.four, Options.{info_replies, is_told, option_reply, replies_to}, declared.handshake.Choice.TheVariants.{Exports, Other}}
use Rattle.nbd_frames.specs.declared.handshake.Reply.TheVariants.{Ack, Invalid, Server, Unsupported}
use Rattle.disk_server.proofs.{Moving.{err_so, ok_so}, Replying.{info_same, no_names, some_names, unknown}}
use Rattle.disk_server.proofs.choosing.answer_option.Goals as goal

pub returns-in-Exports-clause-prefix : goal.returns-in-Exports-clause-prefix
returns-in-Exports-clause-prefix g c =
    let it = c.args.chosen.now in
    let was = g.K.Sink.written c.args.sink.now in
    let now = g.K.Sink.written c.say_all.new.sink in
    err_so c.say_all.result (AppendsPrefix was now (option_reply Exports Server (four 0) ++ option_reply Exports Ack []))
    ((bytes : List ℕ) → length bytes ≡ it.header.size → it.told ≡ is_told bytes → AppendsPrefix was now (replies_to c.args.size c.args.zeros it.header.choice bytes))
    (λ had bytes size told. subst (λ (t : List ℕ). AppendsPrefix was now t)
    (sym (no_names c.args.size c.args.zeros it.header.choice bytes c.in-Exports.is (size ∙ c.if-chosen-eq0.true))) had) c.say_all.ensures.prefix

pub returns-in-Exports-2-clause-ok : goal.returns-in-Exports-2-clause-ok
returns-in-Exports-2-clause-ok g c =
    let it = c.args.chosen.now in
    let was = g.K.Sink.written c.args.sink.now in
    let now = g.K.Sink.written c.say-in-Exports-2.new.sink in
    ok_so c.say-in-Exports-2.result (Appends was now (option_reply Exports Invalid []))
    ((bytes : List ℕ) → length bytes ≡ it.header.size → it.told ≡ is_told bytes → Appends was now (replies_to c.args.size c.args.zeros it.header.choice bytes))
    (λ had bytes size told. subst (λ (t : List ℕ). Appends was now t)
    (sym (some_names c.args.size c.args.zeros it.header.choice bytes c.in-Exports.is (λ empty. c.if-chosen-eq0.false (sym size ∙ empty)))) had)
    c.say-in-Exports-2.ensures.ok

pub returns-in-Info-clause-ok : goal.returns-in-Info-clause-ok
returns-in-Info-clause-ok g c =
    let it = c.args.chosen.now in
    let was = g.K.Sink.written c.args.sink.now in
    let now = g.K.Sink.written c.say_info.new.sink in
    ok_so c.say_info.result ((bytes : List ℕ) → length bytes ≡ it.header.size → it.told ≡ is_told bytes → Appends was now (info_replies c.args.size it.header.choice bytes))
    ((bytes : List ℕ) → length bytes ≡ it.header.size → it.told ≡ is_told bytes → Appends was now (replies_to c.args.size c.args.zeros it.header.choice bytes))
    (λ had bytes size told. subst (λ (t : List ℕ). Appends was now t)
    (sym (info_same c.args.size c.args.zeros it.header.choice bytes c.in-Info.is)) (had bytes size told)) c.say_info.ensures.ok

pub returns-in-Info-clause-prefix : goal.returns-in-Info-clause-prefix
returns-in-Info-clause-prefix g c =
    let it = c.args.chosen.now in
    let was = g.K.Sink.written c.args.sink.now in
    let now = g.K.Sink.written c.say_info.new.sink in
    err_so c.say_info.result ((bytes : List ℕ) → length bytes ≡ it.header.size → it.told ≡ is_told bytes → AppendsPrefix was now (info_replies c.args.size it.header.choice bytes))
    ((bytes : List ℕ) → length bytes ≡ it.header.size → it.told ≡ is_told bytes → AppendsPrefix was now (replies_to c.args.size c.args.zeros it.header.choice bytes))
    (λ had bytes size told. subst (λ (t : List ℕ). AppendsPrefix was now t)
    (sym (info_same c.args.size c.args.zeros it.header.choice bytes c.in-Info.is)) (had bytes size told)) c.say_info.ensures.prefix

pub returns-in-Other-clause-ok : goal.returns-in-Other-clause-ok
returns-in-Other-clause-ok g c =
    let it = c.args.chosen.now in
    let was = g.K.Sink.written c.args.sink.now in
    let now = g.K.Sink.written c.say-in-Other.new.sink in
    ok_so c.say-in-Other.result (Appends was now (option_reply (Other c.in-Other.code) Unsupported []))
    ((bytes : List ℕ) → length bytes ≡ it.header.size → it.told ≡ is_told bytes → Appends was now (replies_to c.args.size c.args.zeros it.header.choice bytes))
    (λ had bytes size told. subst (λ (t : List ℕ). Appends was now t)
    (sym (unknown c.args.size c.args.zeros it.header.choice bytes c.in-Other.code c.in-Other.is)) had) c.say-in-Other.ensures.ok
