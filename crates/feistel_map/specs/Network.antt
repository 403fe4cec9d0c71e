-- The static randomiser: three rounds of a Feistel network over the numbers of b bits, in which no half is swapped.
use Rattle.std.specs.Prelude.{ℕ, ◌+◌, ◌-◌, ◌*◌, ◌/◌, ◌%◌, ◌^◌, ◌<◌, ◌≤◌, bit_xor}
use Rattle.seeded_words.specs.Words.{splitmix_of, word_at}
use Rattle.feistel_map.specs.declared.halves.Halves.{Halves}

-- a network: over how many bits, and the keys of its rounds
pub record Network : Type 0 where
  pub bits : ℕ
  pub first : ℕ
  pub second : ℕ
  pub third : ℕ

-- key number n of a seed: the low 16 bits of its word
abbrev pub key_of : ℕ → ℕ → ℕ
key_of seed n = word_at n (splitmix_of seed) % 65536

-- the network of a seed
abbrev pub network_of : ℕ → ℕ → Network
network_of bits seed = record { bits = bits; first = key_of seed 0; second = key_of seed 1; third = key_of seed 2 }

-- its numbers are in range
pub record IsNetwork (net : Network) : Type 0 where
  pub some_bits : 2 ≤ net.bits
  pub few_bits : net.bits ≤ 32
  pub first_key : net.first < 2 ^ 16
  pub second_key : net.second < 2 ^ 16
  pub third_key : net.third < 2 ^ 16

-- how many bits the halves of a number of b bits have: where b is odd the left one is longer
abbrev pub right_bits : ℕ → ℕ
right_bits b = b / 2

abbrev pub left_bits : ℕ → ℕ
left_bits b = b - b / 2

-- the halves are in range
pub record AreHalves (b : ℕ) (h : Halves) : Type 0 where
  pub left_fits : h.left < 2 ^ left_bits b
  pub right_fits : h.right < 2 ^ right_bits b

-- the halves of a number, and the number of two halves
abbrev pub halves_of : ℕ → ℕ → Halves
halves_of b number = record { left = number / 2 ^ right_bits b; right = number % 2 ^ right_bits b }

abbrev pub joined : ℕ → Halves → ℕ
joined b h = h.left * 2 ^ right_bits b + h.right

-- the round function
abbrev pub mixed : ℕ → ℕ → ℕ
mixed key half = bit_xor half key ^ 2

-- a round changes one half by the other
abbrev pub left_round : ℕ → ℕ → Halves → Halves
left_round b key h = record { left = bit_xor h.left (mixed key h.right % 2 ^ left_bits b); right = h.right }

abbrev pub right_round : ℕ → ℕ → Halves → Halves
right_round b key h = record { left = h.left; right = bit_xor h.right (mixed key h.left % 2 ^ right_bits b) }

-- three rounds, with these keys
abbrev pub three_rounds : ℕ → ℕ → ℕ → ℕ → ℕ → ℕ
three_rounds b first second third number =
    joined b (left_round b third (right_round b second (left_round b first (halves_of b number))))

-- the network on a number, and its inverse: the rounds in the other order
abbrev pub feistel : Network → ℕ → ℕ
feistel net number = three_rounds net.bits net.first net.second net.third number

abbrev pub unfeistel : Network → ℕ → ℕ
unfeistel net number = three_rounds net.bits net.third net.second net.first number
