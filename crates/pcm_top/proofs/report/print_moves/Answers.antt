use Rattle.std.proofs.Common.{◌≡◌, arith, rules}
use Rattle.std.proofs.lemmas.Grind.{common_steps}
use Rattle.start_gap.specs.Rotation.{turn}
use Rattle.rotation_reports.specs.MovesText.{move_row, moves_header}
use Rattle.text_printer.proofs.Ending.{on_err, on_err_any, on_ok}
use Rattle.pcm_top.proofs.Reporting.{reported-flushed, reported-last, reported-part, reported-row}
use Rattle.pcm_top.proofs.report.print_moves.Goals as goal

pub returns-in_err-make_room : goal.returns-in_err-make_room
returns-in_err-make_room g c = record {
  ok = search rules;
  prefix = on_err_any c.from_residual.result _
      (reported-part moves_header (move_row c.args.lines) c.args.first c.loop-row.row (turn c.args.lines) c.loop-row.text _ _ _ c.loop-row.invariant.2 c.loop-row.invariant.0 c.in_err-make_room.ensures.prefix);
  fault = search rules;
  never_falls = first_of (search rules, grind (arith, common_steps));
}

pub loop-row-preserved : goal.loop-row-preserved
loop-row-preserved g c =
    let flushed = reported-flushed moves_header (move_row c.args.lines) c.args.first c.loop-row.row 320 c.loop-row.text c.make_room.new.text _ _ _ c.loop-row.invariant.0 c.in_ok-make_room.ensures.ok in
    let row = reported-row moves_header (move_row c.args.lines) c.args.first c.loop-row.row c.make_room.new.text _ _ flushed in
    (rw (c.print_move_row.ensures.after, c.from.ensures) row, omega (arith, c.loop-row.invariant.1, c.in_ok-make_room.ensures.never_falls), omega (arith, c.loop-row-test.true))

pub returns : goal.returns
returns g c = record {
  ok = let all : c.loop-row.row ≡ turn c.args.lines = omega (arith, c.loop-row-test.false, c.loop-row.invariant.2) in
      on_ok c.write_all.result _ _ c.write_all.ensures.ok (λ last. reported-last moves_header (move_row c.args.lines) c.args.first c.loop-row.row (turn c.args.lines) c.loop-row.text _ _ _ all c.loop-row.invariant.0 (rw c.bytes-rest.ensures at last));
  prefix = on_err c.write_all.result _ _ c.write_all.ensures.prefix (λ part. reported-part moves_header (move_row c.args.lines) c.args.first c.loop-row.row (turn c.args.lines) c.loop-row.text _ _ _ c.loop-row.invariant.2 c.loop-row.invariant.0 (rw c.bytes-rest.ensures at part));
  fault = search rules;
  never_falls = first_of (search rules, grind (arith, common_steps));
}
