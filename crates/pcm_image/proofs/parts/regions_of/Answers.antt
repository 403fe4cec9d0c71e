use Rattle.std.proofs.Common.{arith}
use Rattle.std.proofs.lemmas.Result.{err_from_is_err_and}
use Rattle.pcm_image.{specs.Giving.{cursor, head_view}, specs.Reading.{region_at, times}, proofs.Loop.{goes_on, ends, is_done}}
use Rattle.pcm_image.proofs.parts.regions_of.Goals as goal

pub loop-preserved : goal.loop-preserved
loop-preserved c = (
  rw c.in_ok-push.ensures.items (goes_on (region_at c.args.format (head_view c.args.head)) c.loop.items.items c.args.head.regions c.loop.counter (cursor c.loop.rest) c.in_ok-item.item (cursor c.in_ok-item.after) (times c.args.head.regions (region_at c.args.format (head_view c.args.head)) (cursor c.args.fields)) c.loop-test.true c.in_ok-item.ensures.gives c.loop.invariant.0),
  omega (arith, c.loop.invariant.1, c.in_ok-item.ensures.at),
)

pub returns-clause-gives : goal.returns-clause-gives
returns-clause-gives c = is_done (region_at c.args.format (head_view c.args.head)) c.loop.items.items c.args.head.regions c.loop.counter (cursor c.loop.rest) (times c.args.head.regions (region_at c.args.format (head_view c.args.head)) (cursor c.args.fields)) c.loop-test.false c.loop.invariant.0

pub returns-in_err-item-clause-gives : goal.returns-in_err-item-clause-gives
returns-in_err-item-clause-gives c =
    let p = err_from_is_err_and c.from_residual.result c.from_residual.ensures.1 in
    rw (p.1, p.2) (ends (region_at c.args.format (head_view c.args.head)) c.in_err-item.field-0.0 c.loop.items.items c.args.head.regions c.loop.counter (cursor c.loop.rest) (times c.args.head.regions (region_at c.args.format (head_view c.args.head)) (cursor c.args.fields)) c.loop-test.true c.in_err-item.ensures.gives c.loop.invariant.0)
