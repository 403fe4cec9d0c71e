use Rattle.std.proofs.Common.{◌≡◌, ◌-◌, ◌*◌, ◌≤◌, ◌++◌}
use Rattle.rand_core.specs.Steps.{stream_of}
use Rattle.rand_xoshiro.specs.SplitMix64.{splitmix_steps}
use Rattle.disk_words.specs.Cuts.{drawn, ticks_drawn}
use Rattle.disk_words.proofs.cuts.draw.Given as goal

abbrev pub invariant-loop : goal.invariant-loop
invariant-loop l = record {
  drawn : drawn l.fn.cuts ≡ l.ticks.items ++ ticks_drawn (l.fn.cuts.count - l.counter) l.fn.cuts.every l.tick (stream_of splitmix_steps l.words);
  early : l.tick ≤ 549755813888 * l.counter;
}
