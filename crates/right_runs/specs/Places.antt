-- Where the rows of a bank say that their lines stood.
use Rattle.std.specs.Prelude.{ℕ, ◌/◌, ◌==◌, ◌&&◌, Bool, List, count_by, ◌+◌, ◌||◌, nat_lt, nat_le, ◌-◌, ◌%◌, not, true, ◌∷◌, ◌++◌}
use Rattle.result_rows.specs.declared.Outcome.{Outcome}
use Rattle.result_rows.specs.declared.Outcome.TheVariants as out
use Rattle.row_rules.specs.{Answers.stored_before, Rows.{line_of, asks_write, RowTest}, declared.Row.Row}
use Rattle.bank_shape.specs.{Shape.{slots_of, slot_moved}, declared.BankShape.BankShape}

-- a region's stores, by this test of outcomes
abbrev pub region_stores : {n : ℕ} → (Outcome n → Bool) → BankShape → ℕ → List (Row n) → ℕ
region_stores counts shape region rows =
    count_by (λ q. asks_write q.asks && (line_of q.asks / shape.lines == region && counts q.outcome)) rows

-- a place is that of the line after so many moves, or one of the bank's spares where that line is worn in the end
abbrev pub is_place_after : BankShape → (ℕ → Bool) → ℕ → ℕ → ℕ → Bool
is_place_after shape worn line place moves =
    let home = shape.base + slot_moved shape line moves in
    place == home || (worn home && (nat_le (shape.base + slots_of shape) place && nat_lt place (shape.base + slots_of shape + shape.spares)))

-- so many moves, or one less just after a store that makes one due
abbrev pub is_place_about : BankShape → (ℕ → Bool) → ℕ → ℕ → ℕ → Bool
is_place_about shape worn line place count =
    is_place_after shape worn line place (count / shape.psi)
    || (count % shape.psi == 0 && (not (count == 0) && is_place_after shape worn line place (count / shape.psi - 1)))

-- the place of a row with this outcome: a store's that of the moves so far, a read's that or the one of the move that is due
abbrev pub outcome_placed : {n : ℕ} → BankShape → (ℕ → Bool) → ℕ → List (Row n) → Outcome n → Bool
outcome_placed shape worn line all (out.Stored tick place) =
    is_place_after shape worn line place (region_stores (stored_before tick) shape (line / shape.lines) all / shape.psi)
outcome_placed shape worn line all (out.Read tick place bytes) =
    is_place_about shape worn line place (region_stores (stored_before tick) shape (line / shape.lines) all)
outcome_placed shape worn line all outcome = true

-- each row's place, the lines that are worn in the end given
abbrev pub is_placed : {n : ℕ} → BankShape → (ℕ → Bool) → RowTest n
is_placed shape worn before r after = outcome_placed shape worn (line_of r.asks) (before ++ r ∷ after) r.outcome
