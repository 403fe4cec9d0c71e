-- What the events of every trace are like.
use Rattle.std.specs.Prelude.{◌≡◌, ℕ, ◌<◌, ◌≤◌, List, [], ◌∷◌, length}
use Rattle.masked_bytes.specs.Masked.{IsMasked}
use Rattle.trace_reader.specs.{Rows.latest_tick, declared.event.Event.Event, declared.event.EventOp.EventOp, declared.event.EventOp.TheVariants.{Read, Write, Mask, Cut}}

-- the line exists; a write has n bytes, and a masked one gives some of them and has 0 for the others
abbrev pub IsOpFor : {n : ℕ} → ℕ → EventOp n → Type 0
IsOpFor lines (Read line) = line < lines
IsOpFor {n} lines (Write line bytes) = (line < lines) × (length bytes ≡ n)
IsOpFor {n} lines (Mask line bytes given) = (line < lines) × IsMasked n bytes given
IsOpFor lines Cut = Unit {0}

-- one event for so many lines, at a tick that is none of the earlier ones
pub record IsEventFor {n : ℕ} (lines before : ℕ) (event : Event n) : Type 0 where
  pub rises : before ≤ event.tick
  pub in_time : event.tick ≤ latest_tick
  pub op : IsOpFor lines event.op

-- events for so many lines whose ticks never fall, from the tick `before` on
unfoldable pub AreEventsFor : {n : ℕ} → ℕ → ℕ → List (Event n) → Type 0
AreEventsFor lines before [] = Unit {0}
AreEventsFor lines before (event ∷ rest) = IsEventFor lines before event × AreEventsFor lines event.tick rest
