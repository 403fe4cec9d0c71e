-- The events that a seed draws.
use Rattle.std.specs.{Int.{w64, to_le_bytes}, Prelude.{ℕ, zero, suc, ◌+◌, ◌*◌, ◌/◌, ◌%◌, ◌^◌, ◌≤◌, ◌==◌, ◌&&◌, nat_le, nat_lt, max, min, Bool, if◌then◌else◌, List, [], ◌∷◌, ◌++◌}}
use Rattle.rand_core.specs.{Steps.{stream_of, steps_u64_high}, Stream.{Stream, next_u64, fill_bytes}}
use Rattle.rand_xoshiro.specs.Xoshiro256.{plus_plus}
use Rattle.seeded_words.specs.Words.{xoshiro_of}
use Rattle.trace_reader.specs.{Rows.latest_tick, declared.event.Event.Event, declared.event.EventOp.EventOp, declared.event.EventOp.TheVariants.{Read, Write, Cut}}
use Rattle.trace_gen.specs.declared.mix.Mix.{Mix}

-- the most lines that a generated trace is of: one that is read whole, and one of a stream
abbrev pub whole_lines : ℕ
whole_lines = 65536

abbrev pub stream_lines : ℕ
stream_lines = 67108864

-- the numbers of a mix are in range
pub record IsMix (mix : Mix) : Type 0 where
  pub some_rows : 1 ≤ mix.rows
  pub few_rows : mix.rows ≤ 400000
  pub percent : mix.write_percent ≤ 100
  pub few_cuts : mix.cuts ≤ mix.rows
  pub small_step : mix.step ≤ 65535
  pub few_hot : mix.hot ≤ whole_lines

-- the numbers of a mix are in range, with more rows than a trace that is read whole may have, and its ticks stay in time
pub record IsLongMix (mix : Mix) : Type 0 where
  pub some_rows : 1 ≤ mix.rows
  pub few_rows : mix.rows ≤ 4000000000
  pub percent : mix.write_percent ≤ 100
  pub few_cuts : mix.cuts ≤ mix.rows
  pub small_step : mix.step ≤ 65535
  pub few_hot : mix.hot ≤ stream_lines
  pub in_time : mix.rows * mix.step ≤ latest_tick

-- cuts stand at the multiples of this row number
abbrev pub cut_distance : Mix → ℕ
cut_distance mix = max 1 (mix.rows / (mix.cuts + 1))

-- whether the row of this number, counted from 1, is a cut
unfoldable pub is_cut_row : Mix → ℕ → Bool
is_cut_row mix row = (row % cut_distance mix == 0) && nat_le (row / cut_distance mix) mix.cuts

-- the line that a word draws: nine words in ten draw one of the hot lines, where there are any
unfoldable pub line_drawn : ℕ → Mix → ℕ → ℕ
line_drawn lines mix word =
    if nat_lt 0 mix.hot && nat_lt (word / 2 ^ 40 % 10) 9 then word % min mix.hot lines else word % lines

-- whether a word draws a write
unfoldable pub draws_write : Mix → ℕ → Bool
draws_write mix word = nat_lt (word / 2 ^ 32 % 100) mix.write_percent

-- what a generator with this state answers from now on
abbrev pub words_left : List ℕ → Stream
words_left state = stream_of (steps_u64_high plus_plus) state

-- the bytes of so many words, each lowest byte first, and what is left
unfoldable pub bytes_of_words : ℕ → Stream → List ℕ × Stream
bytes_of_words zero left = ([], left)
bytes_of_words (suc more) left =
    let before = bytes_of_words more left in
    (before.0 ++ to_le_bytes w64 (next_u64 before.1).0, (next_u64 before.1).1)

-- what is drawn for so many lines of n bytes
module _ (n lines : ℕ) (mix : Mix) where
  -- a write of these bytes
  abbrev pub write_of : ℕ → List ℕ × Stream → EventOp n × Stream
  write_of line drawn = (Write line drawn.0, drawn.1)

  -- the read or write that a word draws; a write then draws its n bytes
  unfoldable pub access_by : ℕ → Stream → EventOp n × Stream
  access_by word left =
      if draws_write mix word then write_of (line_drawn lines mix word) (fill_bytes n left)
      else (Read (line_drawn lines mix word), left)

  -- what happens in the row of this number: a cut draws nothing more, and a read or write draws a word
  unfoldable pub op_drawn : ℕ → Stream → EventOp n × Stream
  op_drawn row left = if is_cut_row mix row then (Cut, left) else access_by (next_u64 left).0 (next_u64 left).1

  -- an operation at a tick
  abbrev pub at_tick : ℕ → EventOp n × Stream → Event n × Stream
  at_tick tick drawn = (record { tick = tick; op = drawn.0 }, drawn.1)

  -- the event of the row of this number: its word says by how much the tick rises, by no more than `step`
  unfoldable pub event_drawn : ℕ → ℕ → Stream → Event n × Stream
  event_drawn row before left = at_tick (before + (next_u64 left).0 % (mix.step + 1)) (op_drawn row (next_u64 left).1)

  -- the events of the next so many rows, behind so many that are done, the last of them at the tick `before`
  unfoldable pub events_drawn : ℕ → ℕ → ℕ → Stream → List (Event n)
  events_drawn zero done before left = []
  events_drawn (suc more) done before left =
      (event_drawn (suc done) before left).0
      ∷ events_drawn more (suc done) (event_drawn (suc done) before left).0.tick (event_drawn (suc done) before left).1

-- the events of a generated trace: those that the generator of the seed draws from tick 0 on
unfoldable pub generated : (n seed lines : ℕ) → Mix → List (Event n)
generated n seed lines mix = events_drawn n lines mix mix.rows 0 0 (xoshiro_of seed)
