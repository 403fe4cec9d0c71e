use Rattle.std.proofs.Common.{◌≡◌, ℕ, List, [], false, length, sym, subst, ◌∙◌, arith}
use Rattle.std.specs.Io.KnownBytes.{Appends}
use Rattle.nbd_frames.specs.{Options.{info_replies, is_told, option_reply}, declared.handshake.Reply.TheVariants.Invalid}
use Rattle.disk_server.proofs.{Moving.ok_so, Replying.untold}
use Rattle.disk_server.proofs.choosing.say_info.Goals as goal

pub returns-else-chosen-clause-ok : goal.returns-else-chosen-clause-ok
returns-else-chosen-clause-ok g c =
    let was = g.K.Sink.written c.args.sink.now in
    let now = g.K.Sink.written c.say-else-chosen.new.sink in
    let choice = c.args.chosen.now.header.choice in
    ok_so c.say-else-chosen.result (Appends was now (option_reply choice Invalid []))
    ((bytes : List ℕ) → length bytes ≡ c.args.chosen.now.header.size → c.args.chosen.now.told ≡ is_told bytes → Appends was now (info_replies c.args.size choice bytes))
    (λ had bytes size told.
    subst (λ (t : List ℕ). Appends was now t) (sym (untold c.args.size false choice bytes (omega (arith, size)) (sym told ∙ c.if-chosen.false))) had)
    c.say-else-chosen.ensures.ok
