-- The banks of a module: of which bank each line is, its number there, and the rules of a bank.
use Rattle.std.specs.{List.range_with_len, Prelude.{ℕ, ◌+◌, ◌*◌, List, map, nat_lt}}
use Rattle.feistel_map.specs.{Log2.log2, Network.{network_of, feistel, unfeistel}}
use Rattle.module_shape.specs.{Addresses.{module_of, bank_of, bank_line_of, lines_of, pace_of, bank_shape}, Limits.total_of, declared.raw.RawShape.RawShape}
use Rattle.row_rules.specs.declared.Rules.{Rules}
use Rattle.bank_shape.specs.{Shape.controls_of, declared.BankShape.BankShape, declared.pace.Pace.Pace}
use Rattle.ecp_line.specs.Steps.{most_steps}

module _ (raw : RawShape) (seed : ℕ) where
  -- the number that the static randomiser gives a line of the module
  abbrev pub mixed_line : ℕ → ℕ
  mixed_line line = feistel (network_of (log2 (total_of raw)) seed) line

  -- the bank of a line, and its number there
  abbrev pub bank_of_line : ℕ → ℕ
  bank_of_line line = bank_of (module_of raw) (mixed_line line)

  -- its number in that bank
  abbrev pub line_in_bank : ℕ → ℕ
  line_in_bank line = bank_line_of (module_of raw) (mixed_line line)

  -- the line of the module that has this number in this bank
  abbrev pub line_named : ℕ → ℕ → ℕ
  line_named bank own = unfeistel (network_of (log2 (total_of raw)) seed) (bank * lines_of (module_of raw) + own)

-- the bank of each line of a module
abbrev pub banks_of : RawShape → ℕ → List ℕ
banks_of raw seed = map (bank_of_line raw seed) (range_with_len 0 (total_of raw))

-- the rules of a bank. A line write takes at most `8 * (3 * e + 2)` steps
abbrev pub rules_of : ℕ → BankShape → Pace → Rules
rules_of e shape pace =
    record { writes = shape.writes; reads = shape.reads; spares = shape.spares; read_ticks = pace.read; iter_ticks = pace.iter; steps = most_steps e; policy = pace.policy; twice = nat_lt 0 (controls_of shape) }

-- the pacing of its banks
abbrev pub pacing_in : RawShape → Pace
pacing_in raw = pace_of raw

-- the rules of a bank
abbrev pub rules_in : ℕ → RawShape → ℕ → Rules
rules_in e raw bank = rules_of e (bank_shape (module_of raw) bank) (pacing_in raw)
