-- The law of a bank that was just made.
use Rattle.std.specs.Prelude.{◌≡◌, ℕ, ◌+◌, ◌<◌, false, [], None}
use Rattle.cell_rows.specs.Device.{ArrayState, IsBlank}
use Rattle.bank_shape.specs.Shape.{lines_in}
use Rattle.bank_invariant.specs.Holds.{Holds}
use Rattle.register_laws.specs.Control.{Control}
use Rattle.clock_laws.specs.{Leads.Leads, State.ClockState}

-- no event leads to a clock at tick 0 in which nothing runs or stands and there is no change, over blank lines and control lines that
-- hold what the bank keeps
abbrev pub StartLaw : Type 0
StartLaw =
    (n m e : ℕ) (clock : ClockState n m e) (array : ArrayState n m)
    → Holds [] clock.bank array → clock.bank.running ≡ None → clock.bank.lost ≡ []
    → clock.regs.change ≡ None → clock.regs.halted ≡ false → clock.regs.writer ≡ None → Control clock.bank.kept clock.regs array
    → clock.tick ≡ 0 → clock.action ≡ None → clock.arrivals ≡ [] → clock.cancels ≡ 0
    → ((line : ℕ) → line < lines_in clock.bank.kept.shape → IsBlank (array.line (clock.bank.kept.shape.base + line)))
    → Leads [] clock array
