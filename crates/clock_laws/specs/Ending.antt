-- What a history leaves of the array, for the laws of places and of wear, and for the runs of a module.
use Rattle.std.specs.Prelude.{ℕ, List}
use Rattle.cell_rows.specs.Device.{ArrayState}
use Rattle.ecp_line.specs.Untouched.{AreUntouched}
use Rattle.bank_shape.specs.Shape.{lines_in}
use Rattle.bank_model.specs.Timing.{TimedEvent}
use Rattle.bank_laws.specs.Laws.{LeavesArray}
use Rattle.clock_laws.specs.{Leads.Leads, State.ClockState}

-- a history that leads to a bank over an array leaves that array with its pulses, and with its retired lines worn
abbrev pub LeavingLaw : Type 0
LeavingLaw =
    (n m e : ℕ) (xs : List (TimedEvent n m)) (clock : ClockState n m e) (array : ArrayState n m)
    → Leads xs clock array → LeavesArray e clock.bank.kept.shape xs array

-- and every unused check cell of the bank's lines, its control lines among them, untouched
abbrev pub UntouchedLaw : Type 0
UntouchedLaw =
    (n m e : ℕ) (xs : List (TimedEvent n m)) (clock : ClockState n m e) (array : ArrayState n m)
    → Leads xs clock array → AreUntouched e array clock.bank.kept.shape.base (lines_in clock.bank.kept.shape)
