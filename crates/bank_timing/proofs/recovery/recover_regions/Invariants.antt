use Rattle.std.proofs.Common.{◌≡◌, None, false}
use Rattle.bank_model.specs.{Changes.numbers_from, Touching.Touches}
use Rattle.power_recovery.specs.Kept.{KeptState}
use Rattle.bank_core.specs.Stepping.{with_kept}
use Rattle.register_laws.specs.Recovering.{IsReadable}
use Rattle.bank_timing.specs.Reading.{regions_back}
use Rattle.bank_timing.proofs.recovery.recover_regions.Given as goal

-- the regions so far are read back
abbrev pub invariant-loop-i : goal.invariant-loop-i
invariant-loop-i g l =
    ((kept : KeptState g.row.B) → IsReadable kept l.fn.bank.kept l.fn.regs (g.A.CellArray.state l.fn.array) → l.bank ≡ with_kept l.fn.bank (regions_back l.i kept))
    × Touches l.fn.tick (numbers_from l.fn.regs.base l.i) None false (g.A.CellArray.state l.fn.array) (g.A.CellArray.state l.array)
