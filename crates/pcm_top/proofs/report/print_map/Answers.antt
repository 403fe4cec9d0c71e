use Rattle.std.proofs.Common.{◌≡◌, ◌+◌, arith, rules}
use Rattle.std.proofs.lemmas.Grind.{common_steps}
use Rattle.rotation_reports.specs.MapText.{lines_of, map_header, map_row}
use Rattle.text_printer.proofs.Ending.{on_err, on_err_any, on_ok}
use Rattle.pcm_top.proofs.Reporting.{reported-flushed, reported-last, reported-part, reported-row}
use Rattle.pcm_top.proofs.report.print_map.Goals as goal

pub returns-in_err-make_room : goal.returns-in_err-make_room
returns-in_err-make_room g c = record {
  ok = search rules;
  prefix = on_err_any c.from_residual.result _
      (reported-part map_header (map_row c.args.options) 0 c.loop-line.line (lines_of c.args.options) c.loop-line.text _ _ _ c.loop-line.invariant.2 c.loop-line.invariant.0 c.in_err-make_room.ensures.prefix);
  fault = search rules;
  never_falls = first_of (search rules, grind (arith, common_steps));
}

pub loop-line-preserved : goal.loop-line-preserved
loop-line-preserved g c =
    let flushed = reported-flushed map_header (map_row c.args.options) 0 c.loop-line.line 320 c.loop-line.text c.make_room.new.text _ _ _ c.loop-line.invariant.0 c.in_ok-make_room.ensures.ok in
    let row = reported-row map_header (map_row c.args.options) 0 c.loop-line.line c.make_room.new.text _ _ flushed in
    let first : 0 + c.loop-line.line ≡ c.loop-line.line = omega arith in
    (rw (c.print_row.ensures.after, c.new-map.ensures) (rw first at row), omega (arith, c.loop-line.invariant.1, c.in_ok-make_room.ensures.never_falls), omega (arith, c.loop-line-test.true))

pub returns : goal.returns
returns g c = record {
  ok = let all : c.loop-line.line ≡ lines_of c.args.options = omega (arith, c.loop-line-test.false, c.loop-line.invariant.2) in
      on_ok c.write_all.result _ _ c.write_all.ensures.ok (λ last. reported-last map_header (map_row c.args.options) 0 c.loop-line.line (lines_of c.args.options) c.loop-line.text _ _ _ all c.loop-line.invariant.0 (rw c.bytes-last.ensures at last));
  prefix = on_err c.write_all.result _ _ c.write_all.ensures.prefix (λ part. reported-part map_header (map_row c.args.options) 0 c.loop-line.line (lines_of c.args.options) c.loop-line.text _ _ _ c.loop-line.invariant.2 c.loop-line.invariant.0 (rw c.bytes-last.ensures at part));
  fault = search rules;
  never_falls = first_of (search rules, grind (arith, common_steps));
}
