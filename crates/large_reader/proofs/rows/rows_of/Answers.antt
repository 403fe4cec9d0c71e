use Rattle.std.proofs.Common.{arith}
use Rattle.std.proofs.lemmas.Result.{err_from_is_err_and}
use Rattle.pcm_image.specs.Giving.{cursor}
use Rattle.large_reader.proofs.Lines.{next, ends_at, line_fails, row_fails, are_listed}
use Rattle.large_reader.proofs.rows.rows_of.Goals as goal

pub returns-in_err-line-clause-gives : goal.returns-in_err-line-clause-gives
returns-in_err-line-clause-gives g c =
    let p = err_from_is_err_and c.from_residual.result c.from_residual.ensures.1 in
    rw (p.1, p.2) (line_fails {B = g.row.B} {M = g.row.M} c.in_err-line.field-0.0 c.args.count (cursor c.args.fields) (cursor c.loop-rows.rest) c.loop-rows.least c.loop-rows.rows.items c.loop-rows.invariant c.in_err-line.ensures.gives)

pub returns-then-line-clause-gives : goal.returns-then-line-clause-gives
returns-then-line-clause-gives g c =
    ends_at c.args.count (cursor c.args.fields) (cursor c.loop-rows.rest) c.loop-rows.least c.loop-rows.rows.items (c.in_ok-line.line, cursor c.in_ok-line.behind) (omega (arith, c.requires.count)) c.loop-rows.invariant c.in_ok-line.ensures.gives c.if-line.true

pub returns-then-line-clause-listed : goal.returns-then-line-clause-listed
returns-then-line-clause-listed g c = are_listed c.args.count (cursor c.args.fields) (cursor c.loop-rows.rest) c.loop-rows.least c.loop-rows.rows.items c.loop-rows.invariant

pub returns-in-Err-clause-gives : goal.returns-in-Err-clause-gives
returns-in-Err-clause-gives g c =
    row_fails {B = g.row.B} {M = g.row.M} c.in-Err.error c.args.count (cursor c.args.fields) (cursor c.loop-rows.rest) c.loop-rows.least c.loop-rows.rows.items (c.in_ok-line.line, cursor c.in_ok-line.behind) c.loop-rows.invariant c.in_ok-line.ensures.gives c.in_ok-line.ensures.within c.if-line.false c.in-Err.ensures.gives

pub loop-rows-preserved : goal.loop-rows-preserved
loop-rows-preserved g c =
    rw c.in_ok-push.ensures.items (next c.args.count (cursor c.args.fields) (cursor c.loop-rows.rest) c.loop-rows.least c.loop-rows.rows.items (c.in_ok-line.line, cursor c.in_ok-line.behind) (c.in-Ok.read.0, cursor c.in-Ok.read.1)
    c.loop-rows.invariant c.in_ok-line.ensures.gives c.in_ok-line.ensures.within c.if-line.false c.in-Ok.ensures.gives c.in-Ok.ensures.full)
