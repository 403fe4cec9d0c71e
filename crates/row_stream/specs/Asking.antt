-- What the rows of a stream ask. Here it stands with the newest first.
use Rattle.std.specs.Prelude.{◌≡◌, ℕ, Bool, true, false, List, [], ◌∷◌, ◌++◌, reverse}
use Rattle.trace_reader.specs.{declared.event.EventOp.EventOp, declared.event.EventOp.TheVariants.{Read, Write, Mask, Cut}}
use Rattle.trace_stream.specs.{Asked.reached_at, declared.asked.Asked.Asked, declared.asked.Asked.TheVariants.{Happens, Settle, Query, Look, Peek, Until, UntilAny}}
use Rattle.row_stream.specs.{declared.stop.Behind.Behind, declared.stop.Behind.TheVariants.{Nothing, Going, Off}}

module _ {n : ℕ} where
  -- the tick that was reached
  abbrev pub tick_reached : List (Asked n) → ℕ
  tick_reached [] = 0
  tick_reached (Happens event ∷ before) = event.tick
  tick_reached (Settle tick ∷ before) = tick
  tick_reached (Query tick ∷ before) = tick
  tick_reached (Look tick ∷ before) = tick
  tick_reached (Peek peek ∷ before) = peek.tick
  tick_reached (Until until ∷ before) = until.reached
  tick_reached (UntilAny until ∷ before) = until.reached

  -- rows as they were read: then no settle until had gone on from the tick of the row before
  abbrev pub read_of : List (Asked n) → List (Asked n)
  read_of [] = []
  read_of (asked ∷ before) = reached_at (tick_reached (read_of before)) asked ∷ read_of before

  -- how a module stands behind an operation, and behind what was asked
  abbrev pub behind_op : EventOp n → Behind
  behind_op (Read line) = Going
  behind_op (Write line bytes) = Going
  behind_op (Mask line bytes given) = Going
  behind_op Cut = Off

  abbrev pub behind_of : List (Asked n) → Behind
  behind_of [] = Nothing
  behind_of (Happens event ∷ before) = behind_op event.op
  behind_of (Settle tick ∷ before) = Going
  behind_of (Query tick ∷ before) = Going
  behind_of (Look tick ∷ before) = Going
  behind_of (Peek peek ∷ before) = Going
  behind_of (Until until ∷ before) = Going
  behind_of (UntilAny until ∷ before) = Going

  -- these rows are the first of all, which stand in their order
  abbrev pub BeginsWith : List (Asked n) → List (Asked n) → Type 0
  BeginsWith asked all = (rest : List (Asked n)) × (reverse asked ++ rest ≡ all)

  -- a power cut at the tick that was reached, behind what was asked
  abbrev pub cut_at_end : List (Asked n) → Asked n
  cut_at_end asked = Happens (record { tick = tick_reached asked; op = Cut })

  abbrev pub cut_behind : List (Asked n) → List (Asked n)
  cut_behind asked = cut_at_end asked ∷ asked

  -- where the power is to stay off in the end, it is cut behind what was asked, unless that was its cut, or nothing
  abbrev pub cut_if : Behind → List (Asked n) → List (Asked n)
  cut_if Nothing asked = asked
  cut_if Off asked = asked
  cut_if Going asked = cut_behind asked

  abbrev pub with_cut : Bool → List (Asked n) → List (Asked n)
  with_cut false asked = asked
  with_cut true asked = cut_if (behind_of asked) asked

-- whether the power stays off in the end: where nothing was asked it makes no difference
abbrev pub off_behind : Behind → Bool
off_behind Nothing = false
off_behind Going = true
off_behind Off = true

abbrev pub stays_off : {n : ℕ} → Bool → List (Asked n) → Bool
stays_off false asked = false
stays_off true asked = off_behind (behind_of asked)
