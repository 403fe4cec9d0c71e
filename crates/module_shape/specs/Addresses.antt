-- The banks of a module, and where its lines are.
use Rattle.std.specs.Prelude.{ℕ, ◌*◌, ◌/◌, ◌%◌}
use Rattle.bank_shape.specs.{Shape.lines_in, declared.BankShape.BankShape, declared.pace.Pace.Pace}
use Rattle.module_shape.specs.declared.raw.RawShape.{RawShape}

-- the sizes of a module: so many banks of one shape
pub record ModuleShape : Type 0 where
  pub banks : ℕ
  pub bank : BankShape

-- the banks of a module of these sizes; the first one begins at array line 0
abbrev pub module_of : RawShape → ModuleShape
module_of raw = record {
  banks = raw.banks;
  bank = record {
    base = 0;
    regions = raw.regions;
    lines = raw.lines;
    spares = raw.spares;
    writes = raw.writes;
    reads = raw.reads;
    psi = raw.psi;
    home = raw.home;
  };
}

-- how fast its banks work
abbrev pub pace_of : RawShape → Pace
pace_of raw = record { read = raw.read_ticks; iter = raw.iter_ticks; policy = raw.policy }

-- how many lines, and how many array lines, a bank has
abbrev pub lines_of : ModuleShape → ℕ
lines_of shape = shape.bank.regions * shape.bank.lines

abbrev pub array_lines_of : ModuleShape → ℕ
array_lines_of shape = lines_in shape.bank

-- the shape of one bank: the array lines of the banks follow one another
abbrev pub bank_shape : ModuleShape → ℕ → BankShape
bank_shape shape bank = record shape.bank { base = bank * array_lines_of shape }

-- the bank of a mixed line, and its number there
abbrev pub bank_of : ModuleShape → ℕ → ℕ
bank_of shape mixed = mixed / lines_of shape

abbrev pub bank_line_of : ModuleShape → ℕ → ℕ
bank_line_of shape mixed = mixed % lines_of shape
