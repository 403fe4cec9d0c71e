-- The lines of a bank.
use Rattle.std.specs.Prelude.{ℕ, ◌*◌}
use Rattle.bank_shape.specs.declared.BankShape.{BankShape}

-- how many lines a bank stores
abbrev pub bank_lines : BankShape → ℕ
bank_lines shape = shape.regions * shape.lines
