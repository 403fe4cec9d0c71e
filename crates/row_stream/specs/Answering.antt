-- What waits in the banks of a module, which a query asks.
use Rattle.std.specs.Prelude.{ℕ, zero, suc, Bool, true, false, List, [], ◌∷◌, ◌++◌, length}
use Rattle.clock_laws.specs.State.{ClockState}
use Rattle.pcm_module.specs.State.{ModuleState, bank_at}
use Rattle.row_printer.specs.{declared.told.Backlog.Backlog, declared.told.Mark.Mark, declared.told.Mark.TheVariants.{Going, Exhausted, Halted}, declared.told.Told.Told}
use Rattle.row_printer.specs.declared.told.Told.TheVariants.{Bank}

-- the mark of a bank, by whether it is exhausted and whether it has halted: of one that is both, that it is exhausted, as it refuses every write
abbrev pub mark_of : Bool → Bool → Mark
mark_of true halted = Exhausted
mark_of false true = Halted
mark_of false false = Going

module _ {n m e : ℕ} where
  -- what waits in the bank of this number: the entries of its write queue, with one that is in flight, and its waiting reads
  abbrev pub backlog_of : ℕ → ClockState n m e → Backlog
  backlog_of bank clock = record {
    bank = bank;
    writes = length clock.bank.kept.entries;
    reads = length clock.bank.waiting;
    mark = mark_of clock.bank.kept.exhausted clock.regs.halted;
  }

  -- the lines of the first so many banks of a module at a tick, in order
  abbrev pub banks_told : ModuleState n m e → ℕ → ℕ → List (Told n)
  banks_told module_ tick zero = []
  banks_told module_ tick (suc bank) = banks_told module_ tick bank ++ Bank tick (backlog_of bank (bank_at module_ bank)) ∷ []
