-- A bank with its clock, as contracts see it.
use Rattle.std.specs.Prelude.{ℕ}
use Rattle.clock_laws.specs.State.{ClockState}
use Rattle.bank_timing.specs.declared.clocked.Timed.TheInside.{Inside}

-- the state that contracts name, of the fields that the code has
abbrev pub clock_of : {n m e : ℕ} → Inside n m e → ClockState n m e
clock_of t = record { bank = t.bank; regs = t.regs; pace = t.pace; tick = t.tick; action = t.action; arrivals = t.arrivals.items; cancels = t.cancels; drained = t.drained }
