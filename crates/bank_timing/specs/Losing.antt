-- What becomes of the reads that a power cut takes away.
use Rattle.std.specs.Prelude.{ℕ, List, [], ◌∷◌}
use Rattle.result_rows.specs.{Table.with_outcome, declared.Outcome.Outcome}
use Rattle.result_rows.specs.declared.Outcome.TheVariants as out
use Rattle.bank_invariant.specs.State.{BankState}
use Rattle.clock_laws.specs.State.{ClockState}
use Rattle.bank_timing.specs.Extending.{IsOpen}

-- the results once each of these rows is lost, the first of them first
abbrev pub lost_recorded : {n : ℕ} → ℕ → List ℕ → List (Outcome n) → List (Outcome n)
lost_recorded tick [] results = results
lost_recorded tick (row ∷ rows) results = lost_recorded tick rows (with_outcome results row (out.Lost tick))

-- each of these rows has no outcome as it is lost
abbrev pub LosesOpen : {n : ℕ} → ℕ → List ℕ → List (Outcome n) → Type 0
LosesOpen tick [] results = Unit {0}
LosesOpen tick (row ∷ rows) results = IsOpen results row × LosesOpen tick rows (with_outcome results row (out.Lost tick))

module _ {n m e : ℕ} where
  -- a bank with these rows left to take, and so with its clock
  abbrev pub bank_with_lost : List ℕ → BankState n m e → BankState n m e
  bank_with_lost rows bank = record { kept = bank.kept; running = bank.running; waiting = bank.waiting; lost = rows; rows_below = bank.rows_below }

  abbrev pub with_lost : List ℕ → ClockState n m e → ClockState n m e
  with_lost rows clock =
      record { bank = bank_with_lost rows clock.bank; regs = clock.regs; pace = clock.pace; tick = clock.tick; action = clock.action; arrivals = clock.arrivals; cancels = clock.cancels; drained = clock.drained }
