use Rattle.std.proofs.Common.{◌≡◌, ℕ, ◌*◌, ◌≤◌}
use Rattle.right_runs.specs.Ends.{BankEnd}
use Rattle.pcm_module.specs.{Roles.spares_used_in, State.AreEndsOf}
use Rattle.pcm_module.proofs.side_by_side.Module.retired.Given as goal

abbrev pub invariant-loop-bank : goal.invariant-loop-bank
invariant-loop-bank g l = (l.used ≤ 1024 * l.bank) × ((ends : ℕ → BankEnd) → AreEndsOf l.self ends → l.used ≡ spares_used_in l.self.shape ends l.bank)
