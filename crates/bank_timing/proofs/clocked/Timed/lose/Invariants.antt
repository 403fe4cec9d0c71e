use Rattle.std.proofs.Common.{◌≡◌, List, length}
use Rattle.cell_rows.specs.Device.{ArrayState}
use Rattle.bank_model.specs.Events.{BankEvent}
use Rattle.bank_invariant.specs.Holds.{Holds}
use Rattle.bank_timing.specs.Losing.{LosesOpen, lost_recorded, bank_with_lost}
use Rattle.bank_timing.proofs.clocked.Timed.lose.Given as goal

abbrev pub invariant-loop-row : goal.invariant-loop-row
invariant-loop-row g l =
    LosesOpen l.initial.self-inside.tick l.self-inside.bank.lost (g.R.Outcomes.table l.results)
    × (lost_recorded l.initial.self-inside.tick l.self-inside.bank.lost (g.R.Outcomes.table l.results) ≡ lost_recorded l.initial.self-inside.tick l.initial.self-inside.bank.lost (g.R.Outcomes.table l.initial.results))
    × (l.self-inside ≡ record l.initial.self-inside { bank = bank_with_lost l.self-inside.bank.lost l.initial.self-inside.bank })
    × ((h : List (BankEvent g.row.B)) (array : ArrayState g.row.B g.row.M) → Holds h l.initial.self-inside.bank array → Holds h l.self-inside.bank array)
    × g.R.Outcomes.goes_on l.initial.results l.results

abbrev pub decreases-loop-row : goal.decreases-loop-row
decreases-loop-row g l = length l.self-inside.bank.lost
