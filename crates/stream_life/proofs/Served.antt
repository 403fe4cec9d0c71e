-- The banks of a stream live on.
use Rattle.std.proofs.Common.{ℕ, ◌*◌, ◌<◌, ◌≤◌, Bool, true, false, List, arith}
use Rattle.std.proofs.Math.Nat.{mul-le-mul_left}
use Rattle.cell_rows.specs.Device.{ArrayState, CellBounds}
use Rattle.ecp_line.specs.Layout.{IsLayout}
use Rattle.row_rules.specs.{Ticking.tries, declared.Row.Row}
use Rattle.module_shape.specs.{Addresses.{module_of, bank_shape}, Limits.IsShape, declared.raw.RawShape.RawShape}
use Rattle.right_runs.specs.{Banks.rules_in, Ends.BankEnd, Runs.RunsRightTo, Tables.table_in}
use Rattle.lifetime_laws.specs.Lifetime.{AskedLaw, most_hot_works, most_asked_works}
use Rattle.run_laws.specs.Lasting.{AliveLaw, Outlasts, OutlastsAsked}
use Rattle.stream_life.specs.{CutOff.CutOffLaw, Lasting.{IsAliveTo, StreamLastingLaw, AskedStreamLaw, rows_served}}

-- what a trace asks for is no less than what it stores
asked-more : AskedLaw → (n e : ℕ) (bounds : CellBounds) (raw : RawShape) (seed : ℕ) (rows : List (Row n)) (bank : ℕ) (hot : ℕ → List ℕ) → IsShape raw
    → OutlastsAsked bounds e raw seed rows bank hot → Outlasts bounds e raw seed rows bank hot
asked-more asked n e bounds raw seed rows bank hot shape few region lt =
    let each : ℕ = tries (rules_in e raw bank).policy in
    let fewer : each * most_hot_works (bank_shape (module_of raw) bank) region (hot region) (table_in raw seed bank rows)
    ≤ each * most_asked_works (bank_shape (module_of raw) bank) region (hot region) (table_in raw seed bank rows) =
    mul-le-mul_left each
    ((asked n (bank_shape (module_of raw) bank) (table_in raw seed bank rows) (omega (arith, shape.some_lines)) (omega (arith, shape.some_psi))).works region (hot region)) in
    omega (arith, fewer, few region lt)

-- a bank lives on, whichever way it ended
lives_to : AliveLaw → CutOffLaw → (n m e : ℕ) (off : Bool) (raw : RawShape) (seed : ℕ) (rows : List (Row n)) (array : ArrayState n m) (ends : ℕ → BankEnd)
    (hot : ℕ → List ℕ) (bank : ℕ) → IsShape raw → IsLayout n m e → RunsRightTo e raw seed off rows array ends
    → bank < raw.banks → Outlasts array.bounds e raw seed rows bank hot
    → IsAliveTo off e raw seed rows array (ends bank) bank
lives_to alive cut n m e false raw seed rows array ends hot bank = alive n m e raw seed rows array ends hot bank
lives_to alive cut n m e true raw seed rows array ends hot bank = cut n m e raw seed rows array ends hot bank

pub stream_law : AliveLaw → CutOffLaw → {S : Type 0} → StreamLastingLaw S
stream_law alive cut n m e job source array told served hot bank is layout exists few =
    lives_to alive cut n m e _ job.shape job.seed _ array served.ended.ends hot bank is.shape layout served.leaves.right exists few

pub asked_law : AskedLaw → AliveLaw → CutOffLaw → {S : Type 0} → AskedStreamLaw S
asked_law asked alive cut n m e job source array told served hot bank is layout exists few =
    stream_law alive cut n m e job source array told served hot bank is layout exists
    (asked-more asked n e array.bounds job.shape job.seed (rows_served served) bank hot is.shape few)
