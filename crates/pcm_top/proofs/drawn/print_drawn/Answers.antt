use Rattle.std.proofs.Common.{◌∷◌, arith, rules}
use Rattle.std.proofs.lemmas.Grind.{common_steps}
use Rattle.trace_gen.specs.Generated.{generated}
use Rattle.text_printer.proofs.Ending.{on_err, on_err_any, on_ok}
use Rattle.pcm_top.proofs.Drawing.{drawn-flushed, drawn-header, drawn-last, drawn-part, drawn-row}
use Rattle.pcm_top.proofs.drawn.print_drawn.Goals as goal

pub loop-event-init : goal.loop-event-init
loop-event-init g c =
    (rw (c.push.ensures.after, c.requires.room, c.header.ensures, c.new-generator.ensures) (drawn-header (generated g.row.B c.args.seed c.args.lines c.args.mix) (g.K.Sink.written c.args.out.now)), omega arith)

pub make_room-requires : goal.make_room-requires
make_room-requires g c = omega (arith, c.loop-event.invariant.0.limit)

pub returns-in_err-make_room : goal.returns-in_err-make_room
returns-in_err-make_room g c = record {
  ok = search rules;
  prefix = on_err_any c.from_residual.result _
      (drawn-part (generated g.row.B c.args.seed c.args.lines c.args.mix) c.loop-event.generator c.loop-event.text _ _ _ c.loop-event.invariant.0 c.in_err-make_room.ensures.prefix);
  fault = search rules;
  never_falls = first_of (search rules, grind (arith, common_steps));
}

pub loop-event-preserved : goal.loop-event-preserved
loop-event-preserved g c =
    let all = generated g.row.B c.args.seed c.args.lines c.args.mix in
    let next = rw c.in-Some.ensures at c.loop-event.invariant.0 in
    let flushed = drawn-flushed all (c.in-Some.event ∷ c.next_event.new.self) 320 c.loop-event.text c.make_room.new.text _ _ _ next c.in_ok-make_room.ensures.ok in
    let row = drawn-row all c.in-Some.event c.next_event.new.self c.make_room.new.text _ _ flushed in
    (rw c.print_event.ensures.after row, omega (arith, c.loop-event.invariant.1, c.in_ok-make_room.ensures.never_falls))

pub returns : goal.returns
returns g c = record {
  ok = on_ok c.write_all.result _ _ c.write_all.ensures.ok (λ last. drawn-last (generated g.row.B c.args.seed c.args.lines c.args.mix) c.loop-event.generator c.loop-event.text _ _ _ c.in_default.ensures.0 c.loop-event.invariant.0 (rw c.bytes-rest.ensures at last));
  prefix = on_err c.write_all.result _ _ c.write_all.ensures.prefix (λ part. drawn-part (generated g.row.B c.args.seed c.args.lines c.args.mix) c.loop-event.generator c.loop-event.text _ _ _ c.loop-event.invariant.0 (rw c.bytes-rest.ensures at part));
  fault = search rules;
  never_falls = first_of (search rules, grind (arith, common_steps));
}
