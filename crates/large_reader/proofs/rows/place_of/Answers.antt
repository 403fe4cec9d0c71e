use Rattle.std.proofs.Common.{◌+◌, ◌-◌, ◌/◌, ◌<◌, length, arith}
use Rattle.large_reader.proofs.Listing.{lower, upper}
use Rattle.large_reader.proofs.rows.place_of.Goals as goal

pub loop-low-preserved-then-rows-middle : goal.loop-low-preserved-then-rows-middle
loop-low-preserved-then-rows-middle g c =
    let k = c.loop-low.invariant in
    let less = c.loop-low-test.true in
    let middle = c.loop-low.low + (c.loop-low.high - c.loop-low.low) / 2 in
    let there : middle < length c.args.rows.now = omega (arith, less, k.within) in
    record {
      order = omega (arith, less);
      within = k.within;
      below = λ i lt. lower c.args.rows.now c.requires.0 i middle c.args.line _ _ c.requires.1 (omega (arith, lt)) there c.if-rows-middle.true;
      above = k.above;
    }

pub loop-low-preserved : goal.loop-low-preserved
loop-low-preserved g c =
    let k = c.loop-low.invariant in
    let less = c.loop-low-test.true in
    let middle = c.loop-low.low + (c.loop-low.high - c.loop-low.low) / 2 in
    record {
      order = omega (arith, less);
      within = omega (arith, less, k.within);
      below = k.below;
      above = λ i le lt. upper c.args.rows.now c.requires.0 middle i c.args.line _ _ c.requires.1 le lt c.if-rows-middle.false;
    }
