-- What a generator of a trace has still to give.
use Rattle.std.specs.Prelude.{◌≡◌, ℕ, ◌-◌, ◌*◌, ◌≤◌, List}
use Rattle.trace_reader.specs.declared.event.Event.{Event}
use Rattle.trace_gen.specs.{Generated.{IsLongMix, cut_distance, events_drawn, words_left}, declared.mix.Mix.Mix}

-- where a generator stands: the state of its words, and how many rows are done, the last of them at this tick
pub record Drawing : Type 0 where
  pub state : List ℕ
  pub lines : ℕ
  pub mix : Mix
  pub done : ℕ
  pub tick : ℕ

-- the events that are still to come
abbrev pub left_of : (n : ℕ) → Drawing → List (Event n)
left_of n d = events_drawn n d.lines d.mix (d.mix.rows - d.done) d.done d.tick (words_left d.state)

-- its numbers are in range, and the distance between cuts is that of its mix
pub record Draws (d : Drawing) (distance : ℕ) : Type 0 where
  pub mix : IsLongMix d.mix
  pub some_lines : 1 ≤ d.lines
  pub distance_is : distance ≡ cut_distance d.mix
  pub some_distance : 1 ≤ distance
  pub within : d.done ≤ d.mix.rows
  pub early : d.tick ≤ 65535 * d.done
