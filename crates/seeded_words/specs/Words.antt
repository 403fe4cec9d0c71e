-- The words that generators draw from a seed.
use Rattle.std.specs.{Int.{w64, to_le_bytes, from_le_bytes}, Prelude.{ℕ, zero, suc}}
use Rattle.rand_core.specs.{Steps.{stream_of, steps_u64_high}, Stream.{Stream, next_u64}}
use Rattle.rand_xoshiro.specs.{SplitMix64.{splitmix_seed, splitmix_steps}, Xoshiro256.{plus_plus, of_seed}}

-- all that the generator xoshiro256++ answers, from a seed on
abbrev pub xoshiro_of : ℕ → Stream
xoshiro_of seed = stream_of (steps_u64_high plus_plus) (of_seed (splitmix_seed 32 seed))

-- all that the generator SplitMix64 answers, from a seed on
abbrev pub splitmix_of : ℕ → Stream
splitmix_of seed = stream_of splitmix_steps (from_le_bytes w64 (to_le_bytes w64 seed))

-- what is left of a stream after n words
unfoldable pub stream_after : ℕ → Stream → Stream
stream_after zero s = s
stream_after (suc n) s = (next_u64 (stream_after n s)).1

-- word n of a stream, from 0
unfoldable pub word_at : ℕ → Stream → ℕ
word_at n s = (next_u64 (stream_after n s)).0
