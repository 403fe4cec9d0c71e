-- What one row does at one bank.
use Rattle.std.specs.Prelude.{◌≡◌, ◌≢◌, ℕ, ◌<◌, ◌≤◌, false, List, ◌∷◌, ◌++◌}
use Rattle.cell_rows.specs.Device.{ArrayState}
use Rattle.ecp_line.specs.Layout.{IsLayout}
use Rattle.result_rows.specs.declared.Outcome.{Outcome}
use Rattle.bank_model.specs.Timing.{TimedEvent}
use Rattle.module_laws.specs.Asking.{Asked, AreAsked}
use Rattle.power_recovery.specs.Slots.{bank_lines}
use Rattle.clock_laws.specs.{Leads.Leads, Standing.arrives_with, State.ClockState}
use Rattle.bank_timing.specs.Extending.{Extends, AreOpen, IsOpen, last_tick}

-- a bank may be brought to a tick: its lines are laid out, it goes on, some history leads to it over this array, the tick isn't past and is
-- in time, and of the rows that stand there none has an outcome
pub record MayCome {n m e : ℕ} (tick : ℕ) (clock : ClockState n m e) (array : ArrayState n m) (results : List (Outcome n)) : Type 0 where
  pub layout : IsLayout n m e
  pub going : clock.drained ≡ false
  pub led : (xs : List (TimedEvent n m)) × Leads xs clock array
  pub forward : clock.tick ≤ tick
  pub within : tick ≤ last_tick
  pub open_rows : AreOpen clock.bank results

-- a row of one of its lines may arrive there then: its number is above those before it, and it has no outcome yet
pub record MayArrive {n m e : ℕ} (row tick line : ℕ) (clock : ClockState n m e) (array : ArrayState n m) (results : List (Outcome n)) : Type 0 where
  pub comes : MayCome tick clock array results
  pub exists : line < bank_lines clock.bank.kept.shape
  pub rises : clock.bank.rows_below ≤ row
  pub fresh : IsOpen results row

-- a bank is at a tick, and takes rows from a bound on; of the rows that stand there none has an outcome
pub record IsAt {n m e : ℕ} (tick rows : ℕ) (clock : ClockState n m e) (results : List (Outcome n)) : Type 0 where
  pub now : clock.tick ≡ tick
  pub going : clock.drained ≡ false
  pub below : clock.bank.rows_below ≤ rows
  pub open_rows : AreOpen clock.bank results

-- these events extend a history; with them this row arrives behind those that were asked for, and no other
pub record IsStep {n m e : ℕ} (xs added : List (TimedEvent n m)) (a : Asked n) (old new : ClockState n m e) (before after : ArrayState n m) (results recorded : List (Outcome n)) : Type 0 where
  pub extends : Extends xs added old new before after results recorded
  pub arrives : (asked : List (Asked n)) → AreAsked xs asked → AreAsked (added ++ xs) (a ∷ asked)
  pub alone : (row : ℕ) → row ≢ a.row → arrives_with added row ≡ false
