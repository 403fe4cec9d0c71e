use Rattle.std.proofs.Common.{◌≡◌, ◌∙◌, ap}
use Rattle.start_gap.specs.Rotation.{move_after}
use Rattle.pcm_io.specs.Reserved.{appended}
use Rattle.rotation_reports.proofs.Bounds.{four_fields, move_row-is}
use Rattle.rotation_reports.proofs.move_rows.print_move_row.Goals as goal

pub returns-clause-after : goal.returns-clause-after
returns-clause-after c =
    let move : c.next_move-next.result ≡ move_after c.args.lines c.args.moves
    = c.next_move-next.ensures.after c.args.moves c.registers_after.ensures.stands
    ∙ ap (λ n. move_after n c.args.moves) c.registers_after.ensures.lines in
    rw (c.push_number_then-4.ensures.after, c.push_number_then-3.ensures.after, c.push_number_then-2.ensures.after, c.push_number_then.ensures.after)
    (four_fields c.args.text.now _ _ _ _ ∙ ap (appended c.args.text.now) (move_row-is _ _ _ move))
