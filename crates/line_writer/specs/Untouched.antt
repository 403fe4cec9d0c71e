-- The unused check cells of a line, those behind the cell `full`: no write pulses them.
use Rattle.std.specs.Prelude.{◌≡◌, ℕ, ◌<◌, false}
use Rattle.program_verify.specs.{Programming.is_wrong, declared.prog.Prog.Prog}
use Rattle.ecp_line.specs.Layout.{full_cell}

module _ {n m : ℕ} where
  -- no such cell is one of those that a pulse of this programming is of
  abbrev pub LeavesUnused : ℕ → Prog n m → Type 0
  LeavesUnused e prog = (number : ℕ) → full_cell n e < number → is_wrong prog number ≡ false
