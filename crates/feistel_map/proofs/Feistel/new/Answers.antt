use Rattle.std.proofs.Common.{ap}
use Rattle.rand_core.specs.Steps.{stream_of}
use Rattle.rand_xoshiro.specs.SplitMix64.{splitmix_steps}
use Rattle.feistel_map.proofs.Keyed.{network-drawn}
use Rattle.feistel_map.proofs.Feistel.new.Goals as goal

pub returns-clause-keys : goal.returns-clause-keys
returns-clause-keys c =
    let draws = network-drawn c.args.bits c.args.seed _ _ _ _ _ _ in
    draws (ap (stream_of splitmix_steps) c.seed_from_u64-words.ensures.seeded) c.next_key-first.ensures.left c.next_key-second.ensures.left
    c.next_key-first.ensures.key c.next_key-second.ensures.key c.next_key-third.ensures.key
