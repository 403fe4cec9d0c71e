-- What contracts see of a bank with its clock.
use Rattle.std.specs.Prelude.{ℕ, ◌||◌, Bool, nat_lt, List, length, Option, Some, None, is_some}
use Rattle.bank_shape.specs.{Acting.{chosen_by, choice}, Pausing.gives_way, declared.clock.Action.Action, declared.clock.Doing.Doing, declared.pace.Pace.Pace}
use Rattle.bank_model.specs.Running.{busy_by, ready_by}
use Rattle.reg_lines.specs.Regs.{RegsState}
use Rattle.register_laws.specs.Telling.{item_of}
use Rattle.bank_invariant.specs.State.{BankState, may_begin}

-- the bank and its control lines, how long its actions last, the present tick, the action that runs, the arrival tick of each entry of
-- the queue, the oldest first, how often the present line write was cancelled, and whether the bank was drained, so that nothing comes
-- any more
pub record ClockState (n m e : ℕ) : Type 0 where
  pub bank : BankState n m e
  pub regs : RegsState n m e
  pub pace : Pace
  pub tick : ℕ
  pub action : Option Action
  pub arrivals : List ℕ
  pub cancels : ℕ
  pub drained : Bool

-- an action that starts at a tick, if one is chosen
abbrev pub started_at : ℕ → Option Doing → Option Action
started_at tick None = None
started_at tick (Some doing) = Some (record { doing = doing; first = tick })

-- the action that runs, or else this one
abbrev pub or_else : Option Action → Option Action → Option Action
or_else (Some action) other = Some action
or_else None other = other

module _ {n m e : ℕ} where
  -- whether a line write is in progress: that of the change that stands, or else that of the bank's work
  abbrev pub is_busy : BankState n m e → RegsState n m e → Bool
  is_busy bank regs = busy_by (item_of regs.change) (is_some regs.writer) (is_some bank.running)

  -- whether one may be begun. The writing of a change that has halted is begun no more
  abbrev pub may_start : BankState n m e → RegsState n m e → Bool
  may_start bank regs = ready_by (item_of regs.change) (is_some regs.writer || regs.halted) (may_begin bank)

  -- what a bank turns to where no action runs
  abbrev pub chosen : ClockState n m e → Option Doing
  chosen clock =
      chosen_by (gives_way clock.pace.policy) (nat_lt 0 (length clock.bank.waiting))
      (choice (is_busy clock.bank clock.regs) (may_start clock.bank clock.regs))

  -- the action that runs from now on: that which runs, or the one that is chosen now
  abbrev pub next_action : ClockState n m e → Option Action
  next_action clock = or_else clock.action (started_at clock.tick (chosen clock))
