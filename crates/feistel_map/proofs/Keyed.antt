-- The network of a seed has the keys that are drawn one after another.
use Rattle.std.proofs.Common.{◌≡◌, ℕ, ◌%◌, refl}
use Rattle.rand_core.specs.Stream.{Stream, next_u64}
use Rattle.seeded_words.specs.Words.{splitmix_of, stream_after, word_at}
use Rattle.feistel_map.specs.Network.{Network, network_of}

pub network-drawn : (bits seed : ℕ) (a b d : Stream) (first second third : ℕ) → a ≡ splitmix_of seed → b ≡ (next_u64 a).1 → d ≡ (next_u64 b).1
    → first ≡ (next_u64 a).0 % 65536 → second ≡ (next_u64 b).0 % 65536 → third ≡ (next_u64 d).0 % 65536
    → ◌≡◌ {A = Network} (record { bits = bits; first = first; second = second; third = third }) (network_of bits seed)
unfolding stream_after word_at
network-drawn bits seed a b d first second third start one two is next last = rw (is, next, last, two, one, start) refl
