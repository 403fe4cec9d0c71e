-- The rows of some banks, from one to another, among those of a module.
use Rattle.std.specs.Prelude.{ℕ, ◌&&◌, nat_le, Bool, true, List, filter}
use Rattle.trace_reader.specs.{declared.event.Event.Event, declared.event.EventOp.EventOp, declared.event.EventOp.TheVariants.{Read, Write, Mask, Cut}}
use Rattle.feistel_map.specs.Network.{Network, feistel}
use Rattle.module_shape.specs.{Addresses.{bank_of, module_of}, declared.raw.RawShape.RawShape}
use Rattle.right_runs.specs.Banks.{bank_of_line}
use Rattle.drawn_parts.specs.declared.Banks.{Banks}

-- the bank of a line, by the network that mixes the lines
abbrev pub home_by : Network → RawShape → ℕ → ℕ
home_by network raw line = bank_of (module_of raw) (feistel network line)

-- a bank is one of them
abbrev pub has_bank : Banks → ℕ → Bool
has_bank banks bank = nat_le banks.first bank && nat_le bank banks.last

module _ {n : ℕ} (home : ℕ → ℕ) (banks : Banks) where
  -- an operation is one for them: of a line of theirs, or a power cut, where each line has its home
  abbrev pub is_for : EventOp n → Bool
  is_for (Read line) = has_bank banks (home line)
  is_for (Write line bytes) = has_bank banks (home line)
  is_for (Mask line bytes given) = has_bank banks (home line)
  is_for Cut = true

  -- the events for them, in their order
  abbrev pub events_for : List (Event n) → List (Event n)
  events_for events = filter (λ event. is_for event.op) events

-- those among the events of a module of these sizes, by the randomiser of this seed
abbrev pub drawn_for : {n : ℕ} → RawShape → ℕ → Banks → List (Event n) → List (Event n)
drawn_for raw seed banks events = events_for (bank_of_line raw seed) banks events
