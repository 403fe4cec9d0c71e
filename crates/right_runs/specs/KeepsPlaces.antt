-- What the rows of a bank are to its array lines in the end: where they say that they stood, which of them are worn, and how much they
-- were pulsed.
use Rattle.std.specs.Prelude.{ℕ, ◌+◌, ◌*◌, ◌&&◌, List, count_by, zero, suc, ◌≤◌, Bool, IsTrue, [], false}
use Rattle.row_rules.specs.{Answers.is_stored, Rows.{asks_write, is_cut, each_row}, Ticking.{tries, writings}, declared.Row.Row, declared.Rules.Rules}
use Rattle.cell_rows.specs.Device.{ArrayState}
use Rattle.bank_shape.specs.{Shape.lines_in, declared.BankShape.BankShape}
use Rattle.right_runs.specs.{Places.is_placed, WornLines.{is_wear_true_to, is_taken_to}}
use Rattle.ecp_line.specs.ArrayLines.{is_worn_at}

-- the most pulses of a bank: so many for each store, each gap move, each retirement and each cut
abbrev pub most_pulses : {n : ℕ} → Rules → List (Row n) → ℕ
most_pulses rules rows =
    let stores = count_by (λ q. asks_write q.asks && is_stored q.outcome) rows in
    tries rules.policy * rules.steps * (writings rules.twice * (2 * stores + rules.spares + 1) + count_by is_cut rows)

-- the pulses of n lines from one on
abbrev pub pulses_among : (ℕ → ℕ) → ℕ → ℕ → ℕ
pulses_among pulses from zero = 0
pulses_among pulses from (suc n) = pulses from + pulses_among pulses (from + 1) n

module _ {n m : ℕ} (e : ℕ) (shape : BankShape) (array : ArrayState n m) where
  -- what the rows of a bank's table, the newest first, are to the array in the end. No control line is worn before there are any
  pub record KeepsPlacesTo (off : Bool) (rules : Rules) (rows : List (Row n)) : Type 0 where
    pub worn : IsTrue (each_row (is_wear_true_to off shape (is_worn_at e array)) rows [])
    pub pulses : pulses_among (λ line. (array.line line).pulses) shape.base (lines_in shape) ≤ most_pulses rules rows
    pub placed : IsTrue (each_row (is_placed shape (is_worn_at e array)) rows [])
    pub taken : IsTrue (each_row (is_taken_to off rules shape (is_worn_at e array)) rows [])

  -- the same where the power isn't off
  abbrev pub KeepsPlaces : Rules → List (Row n) → Type 0
  KeepsPlaces = KeepsPlacesTo false
