-- How long an action of a bank lasts, and which is chosen next.
use Rattle.std.specs.Prelude.{ℕ, ◌+◌, ◌&&◌, Bool, if◌then◌else◌, Option, Some, None}
use Rattle.bank_shape.specs.{declared.clock.Action.Action, declared.clock.Doing.Doing, declared.clock.Doing.TheVariants.{Serving, Beginning, Iterating}}

-- how many ticks an action lasts, where a sense and an iteration take so many
abbrev pub lasts : ℕ → ℕ → Doing → ℕ
lasts read iter Serving = read
lasts read iter Beginning = read
lasts read iter Iterating = iter

-- the tick at which an action ends
abbrev pub ends_with : ℕ → ℕ → Action → ℕ
ends_with read iter action = action.first + lasts read iter action.doing

-- a line write: whether it is in progress, and how it goes on; else whether one may be begun, and how
pub record Choice : Type 0 where
  pub busy : Bool
  pub going_on : Doing
  pub ready : Bool
  pub beginning : Doing

-- the line write of a bank's work, or in its place that of the change that stands
abbrev pub choice : Bool → Bool → Choice
choice busy ready = record { busy = busy; going_on = Iterating; ready = ready; beginning = Beginning }

-- the action that is chosen where none runs: a serve if a read waits and the write gives way; else the next step of a line
-- write in progress; else a serve if a read waits; else the begin of a line write
abbrev pub chosen_by : Bool → Bool → Choice → Option Doing
chosen_by gives_way reads c =
    if gives_way && reads then Some Serving
    else (if c.busy then Some c.going_on else (if reads then Some Serving else (if c.ready then Some c.beginning else None)))
