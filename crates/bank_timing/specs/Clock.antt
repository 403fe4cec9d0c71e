-- What is true of every bank with its clock.
use Rattle.std.specs.Prelude.{ℕ, ◌≡◌, ◌≤◌, Option, None, IfSome, IsTrue}
use Rattle.ecp_line.specs.Layout.{IsLayout}
use Rattle.bank_shape.specs.{Pausing.IsPace, declared.clock.Action.Action, declared.pace.Pace.Pace}
use Rattle.reg_lines.specs.Regs.{RegsState}
use Rattle.bank_invariant.specs.State.{BankState}
use Rattle.clock_laws.specs.Fitting.{IsFit}

-- its lines are laid out, its times are in range, there is room for the arrival tick of each entry that the queue may have, the
-- action that runs has begun and has what it needs, and a change whose writing has halted isn't written
pub record IsClock {n m e : ℕ} (bank : BankState n m e) (regs : RegsState n m e) (pace : Pace) (tick : ℕ) (action : Option Action) (capacity : ℕ) : Type 0 where
  pub layout : IsLayout n m e
  pub paced : IsPace pace
  pub room : capacity ≡ bank.kept.shape.writes
  pub begun : IfSome action (λ a. a.first ≤ tick)
  pub fit : IsFit bank regs action
  pub idle : IsTrue regs.halted → regs.writer ≡ None
