use Rattle.std.proofs.Common.{◌≡◌, ◌+◌, None, false}
use Rattle.bank_model.specs.{Changes.numbers_from, Touching.Touches}
use Rattle.power_recovery.specs.Kept.{KeptState}
use Rattle.bank_core.specs.Stepping.{with_kept}
use Rattle.register_laws.specs.Recovering.{IsOnLines}
use Rattle.bank_timing.specs.Reading.{spares_back}
use Rattle.bank_timing.proofs.recovery.recover_spares.Given as goal

-- the spares so far are read back
abbrev pub invariant-loop-j : goal.invariant-loop-j
invariant-loop-j g l =
    ((kept : KeptState g.row.B) → l.fn.bank.kept ≡ spares_back 0 kept → IsOnLines kept l.fn.regs (g.A.CellArray.state l.fn.array) → l.bank ≡ with_kept l.fn.bank (spares_back l.j kept))
    × Touches l.fn.tick (numbers_from (l.fn.regs.base + l.fn.bank.kept.shape.regions) l.j) None false (g.A.CellArray.state l.fn.array) (g.A.CellArray.state l.array)
