use Rattle.std.proofs.Common.{◌≡◌, ◌+◌, arith, rules}
use Rattle.std.proofs.lemmas.Grind.{common_steps}
use Rattle.pcm_image.specs.{Saved.total_in, Standing.stands_for}
use Rattle.pcm_top.{specs.Showing.{shown_header, shown_row}, proofs.Reporting.{reported-flushed, reported-last, reported-part, reported-row}}
use Rattle.pcm_top.proofs.show.print_lines.Goals as goal
use Rattle.text_printer.proofs.Ending.{on_err, on_err_any, on_ok}

pub returns-in_err-make_room : goal.returns-in_err-make_room
returns-in_err-make_room g c = record {
  ok = search rules;
  prefix = on_err_any c.from_residual.result _
      (reported-part shown_header (shown_row (stands_for g.row.E c.args.image.now)) 0 c.loop-line.line (total_in c.args.image.now.head) c.loop-line.text _ _ _ c.loop-line.invariant.2 c.loop-line.invariant.0 c.in_err-make_room.ensures.prefix);
  fault = search rules;
  never_falls = first_of (search rules, grind (arith, common_steps));
}

pub loop-line-preserved : goal.loop-line-preserved
loop-line-preserved g c =
    let row-of = shown_row (stands_for g.row.E c.args.image.now) in
    let flushed = reported-flushed shown_header row-of 0 c.loop-line.line 320 c.loop-line.text c.make_room.new.text _ _ _ c.loop-line.invariant.0 c.in_ok-make_room.ensures.ok in
    let row = reported-row shown_header row-of 0 c.loop-line.line c.make_room.new.text _ _ flushed in
    let first : 0 + c.loop-line.line ≡ c.loop-line.line = omega arith in
    (rw (c.print_row.ensures, c.stands.ensures) (rw first at row), omega (arith, c.loop-line.invariant.1, c.in_ok-make_room.ensures.never_falls), omega (arith, c.loop-line-test.true))

pub returns : goal.returns
returns g c = record {
  ok = let all : c.loop-line.line ≡ total_in c.args.image.now.head = omega (arith, c.loop-line-test.false, c.loop-line.invariant.2, c.total-line-end.ensures.is) in
      on_ok c.write_all.result _ _ c.write_all.ensures.ok (λ last. reported-last shown_header (shown_row (stands_for g.row.E c.args.image.now)) 0 c.loop-line.line (total_in c.args.image.now.head) c.loop-line.text _ _ _ all c.loop-line.invariant.0 (rw c.bytes-rest.ensures at last));
  prefix = on_err c.write_all.result _ _ c.write_all.ensures.prefix (λ part. reported-part shown_header (shown_row (stands_for g.row.E c.args.image.now)) 0 c.loop-line.line (total_in c.args.image.now.head) c.loop-line.text _ _ _ c.loop-line.invariant.2 c.loop-line.invariant.0 (rw c.bytes-rest.ensures at part));
  fault = search rules;
  never_falls = first_of (search rules, grind (arith, common_steps));
}
