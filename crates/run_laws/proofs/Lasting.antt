-- The banks of a run live on.
use Rattle.std.proofs.Common.{ℕ, ◌*◌, ◌≤◌, arith}
use Rattle.std.proofs.Math.Nat.{mul-le-mul_left}
use Rattle.module_shape.specs.Addresses.{module_of, bank_shape}
use Rattle.ecp_line.specs.ArrayLines.{is_worn_at, decoded}
use Rattle.lifetime_laws.specs.{Endurance.NoneRetiredLaw, Lifetime.{AskedLaw, LifetimeLaw, LivesOn, most_hot_works, most_asked_works}}
use Rattle.row_rules.specs.Ticking.{tries}
use Rattle.run_laws.specs.Lasting.{AliveLaw, AskedAliveLaw}
use Rattle.right_runs.specs.{Banks.rules_in, Tables.table_in}

pub alive_law : LifetimeLaw → NoneRetiredLaw → AliveLaw
alive_law lifetime retired n m e raw seed rows array ends hot bank shape layout right exists few =
    let lives : LivesOn e (bank_shape (module_of raw) bank) array (rules_in e raw bank) (table_in raw seed bank rows) =
    lifetime n m e (bank_shape (module_of raw) bank) array (rules_in e raw bank) (table_in raw seed bank rows) hot layout
    (omega (arith, shape.some_lines)) (omega (arith, shape.some_psi)) (omega (arith, shape.some_read_ticks))
    (right.serves.banks bank exists) (right.serves.places bank exists) (right.serves.lines bank exists) few in
    let own = retired n (bank_shape (module_of raw) bank) (is_worn_at e array) (decoded e array) (table_in raw seed bank rows) (ends bank) (right.end bank exists) lives.unworn in
    record { lives = lives; own = own.0; unused = own.1 }

pub asked_alive_law : AskedLaw → LifetimeLaw → NoneRetiredLaw → AskedAliveLaw
asked_alive_law asked lifetime retired n m e raw seed rows array ends hot bank shape layout right exists few =
    alive_law lifetime retired n m e raw seed rows array ends hot bank shape layout right exists
    (λ region lt.
    let each : ℕ = tries (rules_in e raw bank).policy in
    let fewer : each * most_hot_works (bank_shape (module_of raw) bank) region (hot region) (table_in raw seed bank rows)
    ≤ each * most_asked_works (bank_shape (module_of raw) bank) region (hot region) (table_in raw seed bank rows) =
    mul-le-mul_left each
    ((asked n (bank_shape (module_of raw) bank) (table_in raw seed bank rows) (omega (arith, shape.some_lines)) (omega (arith, shape.some_psi))).works region (hot region)) in
    omega (arith, fewer, few region lt))
