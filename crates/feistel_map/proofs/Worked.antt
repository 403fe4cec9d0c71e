-- Worked examples: the keys of seed 0, and the networks of 2 and of 4 bits.
use Rattle.std.proofs.Common.{◌≡◌, ℕ, [], ◌∷◌, refl}
use Rattle.std.specs.Prelude.{map}
use Rattle.rand_core.specs.{Steps.stream_of, Stream.next_u64}
use Rattle.seeded_words.specs.Words.{stream_after, word_at}
use Rattle.feistel_map.specs.Network.{Network, network_of, feistel, unfeistel}

abbrev network_of_zero : ℕ → Network
network_of_zero bits = record { bits = bits; first = 0xcdaf; second = 0x65f4; third = 0x454f }

keys_of_zero : (bits : ℕ) → network_of bits 0 ≡ network_of_zero bits
unfolding next_u64 stream_of stream_after word_at
keys_of_zero bits = refl

two_bits : map (feistel (network_of_zero 2)) (0 ∷ 1 ∷ 2 ∷ 3 ∷ []) ≡ 3 ∷ 1 ∷ 2 ∷ 0 ∷ []
two_bits = refl

four_bits : map (feistel (network_of_zero 4)) (0 ∷ 1 ∷ 2 ∷ 3 ∷ 4 ∷ 5 ∷ 6 ∷ 7 ∷ 8 ∷ 9 ∷ 10 ∷ 11 ∷ 12 ∷ 13 ∷ 14 ∷ 15 ∷ [])
    ≡ 5 ∷ 1 ∷ 7 ∷ 3 ∷ 4 ∷ 0 ∷ 6 ∷ 2 ∷ 13 ∷ 9 ∷ 15 ∷ 11 ∷ 12 ∷ 8 ∷ 14 ∷ 10 ∷ []
four_bits = refl

three_bits_back : map (unfeistel (network_of_zero 3)) (map (feistel (network_of_zero 3)) (0 ∷ 1 ∷ 5 ∷ 7 ∷ [])) ≡ 0 ∷ 1 ∷ 5 ∷ 7 ∷ []
three_bits_back = refl
