-- What is true of every bank.
use Rattle.std.specs.Prelude.{◌≡◌, ℕ, ◌<◌, ◌≤◌, List, length, All}
use Rattle.ecp_line.specs.Layout.{IsLayout}
use Rattle.power_recovery.specs.{Kept.{KeptState, IsKept}, Slots.bank_lines}
use Rattle.bank_shape.specs.declared.waiting.Waiting.{Waiting}

-- what a bank keeps is in range, and its rings have room for as many reads as may wait
pub record IsBank {n : ℕ} (m e : ℕ) (kept : KeptState n) (waiting : List (Waiting n)) (capacity lost_capacity : ℕ) : Type 0 where
  pub few_bytes : n ≤ 128
  pub layout : IsLayout n m e
  pub in_range : IsKept kept
  pub room : capacity ≡ kept.shape.reads
  pub lost_room : lost_capacity ≡ kept.shape.reads
  pub few_waiting : length waiting ≤ kept.shape.reads
  -- each read that waits is of a line of the bank
  pub known : All (λ w. w.line < bank_lines kept.shape) waiting
