-- What contracts see of the line write in progress.
use Rattle.std.specs.Prelude.{ℕ, Option, None, Some}
use Rattle.bank_core.specs.declared.bank.Running.{Running}
use Rattle.bank_invariant.specs.State.{Operation}

-- a line write, as contracts see it
abbrev pub running_of : {n m e : ℕ} → Running n m e → Operation n m e
running_of r = record { work = r.work; target = r.target; writer = r.writer }

-- the line write in progress
abbrev pub operation_of : {n m e : ℕ} → Option (Running n m e) → Option (Operation n m e)
operation_of None = None
operation_of (Some r) = Some (running_of r)
