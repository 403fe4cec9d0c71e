use Rattle.std.proofs.Common.{◌≡◌, ◌≤◌, ◌∙◌, ℕ, sym, ap, subst, arith}
use Rattle.text_printer.proofs.Ending.{on_err, on_err_any, on_ok}
use Rattle.pcm_io.specs.Reserved.{Reserved, appended}
use Rattle.rotation_reports.specs.MapText.{map_header, standing_row}
use Rattle.module_shape.specs.Limits.{total_of}
use Rattle.pcm_module.specs.declared.map.LinePlace.{LinePlace}
use Rattle.module_prints.proofs.Mapping.{mapped-more, mapped-none, mapped-part, mapped-whole}
use Rattle.module_prints.proofs.map.print_map.Goals as goal

pub loop-line-init : goal.loop-line-init
loop-line-init g c = (
  mapped-none c.args.pcm.now c.print_map_header.new.text (g.K.Sink.written c.args.out.now) (c.print_map_header.ensures.after ∙ ap (λ (t : Reserved). appended t map_header) c.requires.room),
  omega arith,
  ap (λ (t : Reserved). t.limit) c.print_map_header.ensures.after ∙ ap (λ (t : Reserved). t.limit) c.requires.room,
)

pub loop-line-preserved : goal.loop-line-preserved
loop-line-preserved g c =
    let stands = c.standing-standing.result in (
      mapped-more c.args.pcm.now c.loop-line.line c.loop-line.text c.make_room.new.text c.push_standing.new.text (g.K.Sink.written c.args.out.now) (g.K.Sink.written c.loop-line.out) (g.K.Sink.written c.make_room.new.out)
          (standing_row c.loop-line.line stands.address stands.place stands.array) c.loop-line.invariant.0 c.in_ok-make_room.ensures.printed c.push_standing.ensures.after
          (λ ends are. ap (λ (s : LinePlace). standing_row c.loop-line.line s.address s.place s.array) (c.standing-standing.ensures.stands ends are)),
      omega (arith, c.loop-line.invariant.1, c.in_ok-make_room.ensures.never_falls),
      ap (λ (t : Reserved). t.limit) c.push_standing.ensures.after ∙ c.make_room.ensures.limit ∙ c.loop-line.invariant.2,
    )

pub returns-in_err-make_room-clause-prefix : goal.returns-in_err-make_room-clause-prefix
returns-in_err-make_room-clause-prefix g c =
    let all : c.total-line-end.result ≡ total_of c.args.pcm.now.shape = c.total-line-end.ensures.number ∙ ap total_of c.shape.ensures.shape in
    let within : c.loop-line.line ≤ total_of c.args.pcm.now.shape = subst (λ (k : ℕ). c.loop-line.line ≤ k) all (omega arith) in
    on_err_any c.from_residual.result _
    (mapped-part c.args.pcm.now c.loop-line.line c.loop-line.text (g.K.Sink.written c.args.out.now) (g.K.Sink.written c.loop-line.out) (g.K.Sink.written c.make_room.new.out) within c.loop-line.invariant.0 c.in_err-make_room.ensures.part)

pub returns-clause-ok : goal.returns-clause-ok
returns-clause-ok g c =
    let all : c.total-line-end.result ≡ total_of c.args.pcm.now.shape = c.total-line-end.ensures.number ∙ ap total_of c.shape.ensures.shape in
    let ended : c.loop-line.line ≡ c.total-line-end.result = omega arith in
    on_ok c.print_rest.result _ _ c.print_rest.ensures.printed
    (λ writes. mapped-whole c.args.pcm.now c.loop-line.line c.loop-line.text (g.K.Sink.written c.args.out.now) (g.K.Sink.written c.loop-line.out) (g.K.Sink.written c.print_rest.new.out) (ended ∙ all) c.loop-line.invariant.0 writes)

pub returns-clause-prefix : goal.returns-clause-prefix
returns-clause-prefix g c =
    let all : c.total-line-end.result ≡ total_of c.args.pcm.now.shape = c.total-line-end.ensures.number ∙ ap total_of c.shape.ensures.shape in
    let ended : c.loop-line.line ≡ c.total-line-end.result = omega arith in
    let within : c.loop-line.line ≤ total_of c.args.pcm.now.shape = subst (λ (k : ℕ). k ≤ total_of c.args.pcm.now.shape) (sym (ended ∙ all)) (omega arith) in
    on_err c.print_rest.result _ _ c.print_rest.ensures.part
    (λ part. mapped-part c.args.pcm.now c.loop-line.line c.loop-line.text (g.K.Sink.written c.args.out.now) (g.K.Sink.written c.loop-line.out) (g.K.Sink.written c.print_rest.new.out) within c.loop-line.invariant.0 part)
