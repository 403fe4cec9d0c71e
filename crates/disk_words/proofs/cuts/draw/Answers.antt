use Rattle.std.proofs.Common.{refl, arith}
use Rattle.disk_words.proofs.Ticks.{drawn-next, drawn-none, fits, near}
use Rattle.disk_words.proofs.cuts.draw.Goals as goal

pub overflow_add-tick-in-loop : goal.overflow_add-tick-in-loop
overflow_add-tick-in-loop c =
    let bound = fits c.loop.tick c.loop.counter c.args.cuts.every c.next_u64.result c.args.cuts.count c.loop.invariant.early c.loop-test.true c.requires.few c.requires.some c.requires.near in omega (arith, bound)

pub loop-init : goal.loop-init
loop-init c = record {
  drawn = drawn-none c.args.cuts c.in_ok-ticks.ticks.items c.seed_from_u64-words.result c.in_ok-ticks.ensures.items c.seed_from_u64-words.ensures.seeded;
  early = omega arith;
}

pub loop-preserved : goal.loop-preserved
loop-preserved c = record {
  drawn = rw c.in_ok-push.ensures.items (drawn-next _ c.args.cuts.count c.loop.counter c.args.cuts.every c.loop.tick _ c.next_u64.result _ _ c.loop.ticks.items c.loop-test.true
      c.loop.invariant.drawn c.next_u64.ensures refl);
  early = near c.loop.tick c.args.cuts.count c.loop.counter c.args.cuts.every c.next_u64.result c.loop.invariant.early c.requires.some c.requires.near;
}
