-- What is true of every module.
use Rattle.std.specs.Prelude.{◌≡◌, ℕ, ◌<◌, ◌≤◌, List, length, IsSomeAnd, slice_get}
use Rattle.ecp_line.specs.Layout.{IsLayout}
use Rattle.feistel_map.specs.{Log2.log2, Network.{Network, network_of}}
use Rattle.bank_shape.specs.declared.BankShape.{BankShape}
use Rattle.power_recovery.specs.Kept.{IsKept}
use Rattle.module_shape.specs.{Addresses.{module_of, bank_shape}, Limits.{IsShape, total_of}, declared.raw.RawShape.RawShape}
use Rattle.clock_laws.specs.State.{ClockState}
use Rattle.bank_timing.specs.Extending.{last_tick}

-- a bank has this shape, and what is true of every bank is true of it
pub record IsBankOf {n m e : ℕ} (shape : BankShape) (clock : ClockState n m e) : Type 0 where
  pub shaped : clock.bank.kept.shape ≡ shape
  pub kept : IsKept clock.bank.kept

-- a module is right: its lines are laid out, its sizes are in range, its randomiser is that of its seed over its lines, it has a bank of
-- the right shape for each number, and its last row is in time
pub record IsModule {n m e : ℕ} (raw : RawShape) (seed : ℕ) (network : Network) (banks : List (ClockState n m e)) (tick : ℕ) : Type 0 where
  pub layout : IsLayout n m e
  pub in_range : IsShape raw
  pub mixing : network ≡ network_of (log2 (total_of raw)) seed
  pub count : length banks ≡ raw.banks
  pub of_shape : (bank : ℕ) → bank < raw.banks → IsSomeAnd (slice_get banks bank) (IsBankOf (bank_shape (module_of raw) bank))
  pub in_time : tick ≤ last_tick
