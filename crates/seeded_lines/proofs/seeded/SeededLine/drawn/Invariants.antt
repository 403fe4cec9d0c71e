use Rattle.std.proofs.Common.{◌≡◌, ℕ, ◌+◌, ◌*◌, ◌%◌, ◌<◌, ◌≤◌, false, bit_xor, length, slice_index}
use Rattle.rand_core.specs.Steps.{stream_of, steps_u64_high}
use Rattle.rand_xoshiro.specs.Xoshiro256.{plus_plus}
use Rattle.cell_rows.specs.Rows.{cell}
use Rattle.seeded_lines.specs.{Counts.count, Planes.{bit_in, digit, number_of}, Seeded.{endurance, miss_limit, stuck_value}}
use Rattle.seeded_lines.proofs.seeded.SeededLine.drawn.Given as goal
use Rattle.seeded_words.specs.Words.{xoshiro_of, stream_after, word_at}

-- the groups so far have the lives of their words
abbrev pub invariant-loop-group : goal.invariant-loop-group
invariant-loop-group g l = record {
  words : stream_of (steps_u64_high plus_plus) l.words ≡ stream_after (8 * l.group) (xoshiro_of (bit_xor l.wear.seed l.number));
  left : (n : ℕ) → n < 8 * l.group → count l.left n ≡ endurance l.wear (word_at n (xoshiro_of (bit_xor l.wear.seed l.number)));
  limits : (n : ℕ) → n < 8 * l.group → digit l.limits n ≡ miss_limit l.wear (word_at n (xoshiro_of (bit_xor l.wear.seed l.number)));
  ends : (n : ℕ) → n < 8 * l.group → cell l.ends n ≡ stuck_value (word_at n (xoshiro_of (bit_xor l.wear.seed l.number)));
}

-- and so have the cells so far of the group at hand, whose planes have nothing yet of the others
abbrev pub invariant-loop-index : goal.invariant-loop-index
invariant-loop-index g l = record {
  words : stream_of (steps_u64_high plus_plus) l.words ≡ stream_after (8 * l.group + l.index) (xoshiro_of (bit_xor l.wear.seed l.number));
  size : length l.counts ≡ 8;
  left : (j : ℕ) → j < l.index → slice_index l.counts j ≡ endurance l.wear (word_at (8 * l.group + j) (xoshiro_of (bit_xor l.wear.seed l.number)));
  limits : (j : ℕ) → j < l.index → number_of (bit_in l.planes j) (bit_in l.planes (8 + j)) (bit_in l.planes (16 + j))
      ≡ miss_limit l.wear (word_at (8 * l.group + j) (xoshiro_of (bit_xor l.wear.seed l.number)));
  ends : (j : ℕ) → j < l.index → bit_in l.planes (24 + j) ≡ stuck_value (word_at (8 * l.group + j) (xoshiro_of (bit_xor l.wear.seed l.number)));
  none : (i : ℕ) → l.index ≤ i % 8 → bit_in l.planes i ≡ false;
}
