-- How many requests were stopped, and that the lines were, too.
use Rattle.std.specs.Prelude.{ℕ, ◌+◌, ◌-◌, ◌^◌, ◌≤◌, min, List, [], ◌∷◌}
use Rattle.atomic_sectors.specs.{declared.lines.Stopped.Stopped as Why, declared.lines.Stopped.TheVariants.Memory, declared.serving.SectorAnswer.SectorAnswer}
use Rattle.atomic_sectors.specs.declared.serving.SectorAnswer.TheVariants.{Stopped}

-- a count rose by so much at least, or stands at the greatest u64
abbrev pub RoseBy : ℕ → ℕ → ℕ → Type 0
RoseBy more before now = min (before + more) (2 ^ 64 - 1) ≤ now

-- how many stops of the lines stand behind one: 1, but none where memory ran out
abbrev pub stops_by : Why → ℕ
stops_by Memory = 0
stops_by _ = 1

module _ {n : ℕ} where
  -- and behind an answer
  abbrev pub stops_of : SectorAnswer n → ℕ
  stops_of (Stopped why) = stops_by why
  stops_of _ = 0

  -- and behind all of these
  abbrev pub stops_in : List (SectorAnswer n) → ℕ
  stops_in [] = 0
  stops_in (a ∷ answers) = stops_of a + stops_in answers
